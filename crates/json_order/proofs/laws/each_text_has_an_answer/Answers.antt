use Rattle.std.proofs.Common.{drop, refl}
use Rattle.json_order.specs.Answer.{start_of}
use Rattle.json_order.specs.inner.Steps.{fresh, run}
use Rattle.json_order.proofs.RunLaws.{run_answers}
use Rattle.json_order.proofs.laws.each_text_has_an_answer.Goals as goal

pub returns : goal.returns
returns c = λ text. (run 128 fresh (start_of text) (drop (start_of text) text), run_answers (start_of text) (drop (start_of text) text) _ refl)
