use Rattle.std.proofs.Common.{arith, refl}
use Rattle.es_tokens.proofs.AnswerLemmas.{count-chars}
use Rattle.es_tokens.proofs.lexer.Lexer.start.Goals as goal

pub invariant_of-result : goal.invariant_of-result
invariant_of-result c = record {
  within = omega arith;
  short = c.requires;
  deep = rw c.in_ok-new.ensures (omega arith);
  count = omega (arith, count-chars c.args.text.now c.utf8.text);
}

pub returns : goal.returns
returns c = rw c.in_ok-new.ensures refl
