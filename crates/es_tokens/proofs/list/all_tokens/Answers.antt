use Rattle.std.proofs.Common.{length, arith, rules, ap}
use Rattle.std.specs.Str.{chars}
use Rattle.es_tokens.proofs.StepLemmas.{step-shorter}
use Rattle.es_tokens.proofs.TokensLemmas.{reached-start, reached-number, reached-next, misplaced-deep}
use Rattle.es_tokens.proofs.list.all_tokens.Goals as goal

pub loop-tokens-init : goal.loop-tokens-init
loop-tokens-init c = record {
  text = c.utf8.text;
  reached = rw (c.new-tokens.ensures.items, c.in_ok-context.ensures) (reached-start c.args.text.now);
  within = omega arith;
  deep = rw c.in_ok-context.ensures (omega arith);
}

pub overflow_cast-len : goal.overflow_cast-len
overflow_cast-len c =
    let number = reached-number c.args.text.now c.loop-tokens.tokens.items c.loop-tokens.context (chars c.loop-tokens.rest.now) c.utf8.text c.loop-tokens.invariant.reached in
    omega (arith, c.loop-tokens.tokens.ok.0)

pub add-requires : goal.add-requires
add-requires c =
    let number = reached-number c.args.text.now c.loop-tokens.tokens.items c.loop-tokens.context (chars c.loop-tokens.rest.now) c.utf8.text c.loop-tokens.invariant.reached in
    omega arith

pub loop-tokens-smaller : goal.loop-tokens-smaller
loop-tokens-smaller c = step-shorter 4096 c.args.text.now c.loop-tokens.context (chars c.loop-tokens.rest.now) c.in-Token.found (chars c.in-Token.left.now) c.in-Token.ensures.0

pub loop-tokens-preserved : goal.loop-tokens-preserved
loop-tokens-preserved c = record {
  text = search rules;
  reached = reached-next c.args.text.now c.loop-tokens.tokens.items c.add.new.tokens.items c.loop-tokens.context c.pass-mate.new.self (chars c.loop-tokens.rest.now) (chars c.in-Token.left.now)
      c.in-Token.found c.in-Token.role c.len.result c.pass-mate.result c.loop-tokens.invariant.reached
      c.in-Token.ensures.0 c.in-Token.ensures.1 (omega (arith, c.loop-tokens.tokens.ok.0)) c.pass-mate.ensures.mate c.pass-mate.ensures.context c.in_ok-add-in-Token.ensures;
  within = c.in-Token.ensures.3;
  deep = rw (ap (λ (t : _). length t.brackets) c.pass-mate.ensures.context)
      (misplaced-deep 4096 c.loop-tokens.context.brackets c.in-Token.role c.len.result c.loop-tokens.context.condition c.loop-tokens.context.expression c.in-Token.ensures.2 c.loop-tokens.invariant.deep);
}
