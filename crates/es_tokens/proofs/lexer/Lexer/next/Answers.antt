use Rattle.std.proofs.Common.{arith}
use Rattle.std.specs.Str.{chars}
use Rattle.es_tokens.proofs.AnswerLemmas.{left-token}
use Rattle.es_tokens.proofs.StepLemmas.{step-shorter}
use Rattle.es_tokens.proofs.TokensLemmas.{misplaced-deep}
use Rattle.es_tokens.proofs.lexer.Lexer.next.Goals as goal

pub invariant_of-self-in-Token : goal.invariant_of-self-in-Token
invariant_of-self-in-Token c =
    let was = c.self.inside in
    let shorter = step-shorter was.most_depth was.text.now was.context (chars was.rest.now) c.in-Token.found (chars c.in-Token.left.now) c.in-Token.ensures.0 in
    record {
      within = c.in-Token.ensures.3;
      short = c.self.invariant.short;
      deep = rw c.pass-mate.ensures.context
          (misplaced-deep was.most_depth was.context.brackets c.in-Token.role was.number was.context.condition was.context.expression c.in-Token.ensures.2 c.self.invariant.deep);
      count = omega (arith, c.self.invariant.count);
    }

pub returns-in-Token : goal.returns-in-Token
returns-in-Token c =
    let was = c.self.inside in
    rw (← c.self.view_is, c.in-Tokens.is, c.pass-mate.ensures.context, c.in-Token.ensures.1)
    (left-token was.most_depth was.text.now was.context was.number was.rest.now c.in-Token.left.now c.in-Token.found c.in-Token.ensures.0)
