use Rattle.std.proofs.Common.{sym, arith}
use Rattle.split_chunks.proofs.Firsts.{reused_found, reused_none}
use Rattle.split_chunks.proofs.reusing.reused_of.Goals as goal

pub returns-then-is_reusable : goal.returns-then-is_reusable
returns-then-is_reusable c =
    reused_found c.args.rule.now.name c.args.rule.now.reuse c.args.state.now c.args.x.now.chunks c.args.x.now.modules c.loop-place.place (sym c.if-is_some.ensures) c.if-not-rule.false (omega arith) c.loop-place.invariant (sym c.if-is_reusable.ensures)

pub returns : goal.returns
returns c =
    reused_none c.args.rule.now.name c.args.rule.now.reuse c.args.state.now c.args.x.now.chunks c.args.x.now.modules (sym c.if-is_some.ensures) c.if-not-rule.false (λ k lt. c.loop-place.invariant k (omega arith))
