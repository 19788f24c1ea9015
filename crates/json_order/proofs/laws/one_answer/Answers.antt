use Rattle.json_order.proofs.OneAnswer.{one_answer_from}
use Rattle.json_order.proofs.laws.one_answer.Goals as goal

pub returns : goal.returns
returns c = λ text one other a b. one_answer_from _ _ one other a b
