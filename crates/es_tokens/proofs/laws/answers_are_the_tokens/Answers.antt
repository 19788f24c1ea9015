use Rattle.es_tokens.proofs.AnswerLemmas.{answers-lexed, answers-fail}
use Rattle.es_tokens.proofs.laws.answers_are_the_tokens.Goals as goal

pub returns : goal.returns
returns c = record { tokens = answers-lexed; fault = answers-fail }
