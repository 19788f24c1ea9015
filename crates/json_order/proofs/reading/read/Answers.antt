use Rattle.json_order.proofs.AnswerLaws.{answers_only}
use Rattle.json_order.proofs.reading.read.Goals as goal

pub returns-clause-only : goal.returns-clause-only
returns-clause-only c = λ answer is. answers_only c.args.text.now c.read_behind_mark.result c.read_behind_mark.ensures answer is
