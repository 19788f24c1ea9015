use Rattle.std.proofs.Common.{false, length, arith}
use Rattle.std.proofs.lemmas.List.FromFn.{fill_by_all}
use Rattle.split_plan.specs.inner.Search.{goes_with}
use Rattle.split_plan.proofs.claims.modules_with.Goals as goal

pub returns : goal.returns
returns c =
    fill_by_all (goes_with c.args.rule.now c.args.shares.now c.args.set.now) c.loop-module.row (length c.args.shares.now) false c.loop-module.invariant.len
    (λ m lt. c.loop-module.invariant.done m (omega arith))
