-- From the reader's answers to those by the grammar.
use Rattle.std.proofs.Common.{◌≡◌, ℕ, List, Result, Ok, Err}
use Rattle.json_order.specs.declared.tree.JsonTree.{JsonTree}
use Rattle.json_order.specs.declared.fault.JsonFault.{JsonFault}
use Rattle.json_order.specs.declared.fault.JsonEnd.{JsonEnd}
use Rattle.json_order.specs.declared.fault.JsonEnd.TheVariants as end
use Rattle.json_order.specs.Answer.{AnswersBy, IsAnswer, IsAnswerFrom}
use Rattle.json_order.specs.inner.Steps.{run, fresh}
use Rattle.json_order.proofs.RunLaws.{run_answers}
use Rattle.json_order.proofs.OneAnswer.{one_answer_from}

pub answers_weaker : (P Q : Result JsonTree JsonFault → Type 0) (result : Result JsonTree JsonEnd) → ((answer : Result JsonTree JsonFault) → P answer → Q answer)
    → AnswersBy P result → AnswersBy Q result
answers_weaker P Q (Ok tree) h k = h (Ok tree) k
answers_weaker P Q (Err (end.Fault f)) h k = h (Err f) k
answers_weaker P Q (Err end.NoMemory) h k = tt

pub run_found : (at : ℕ) (text : List ℕ) (result : Result JsonTree JsonEnd) → AnswersBy (λ answer. run 128 fresh at text ≡ answer) result → AnswersBy (IsAnswerFrom at text) result
run_found at text result h = answers_weaker (λ answer. run 128 fresh at text ≡ answer) (IsAnswerFrom at text) result (λ answer e. run_answers at text answer e) h

pub answers_only : (text : List ℕ) (result : Result JsonTree JsonEnd) → AnswersBy (IsAnswer text) result
    → (answer : Result JsonTree JsonFault) → IsAnswer text answer → AnswersBy (λ given. given ≡ answer) result
answers_only text result h answer is = answers_weaker (IsAnswer text) (λ given. given ≡ answer) result (λ given k. one_answer_from _ _ given answer k is) h
