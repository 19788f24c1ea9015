use Rattle.json_order.proofs.AnswerLaws.{run_found}
use Rattle.json_order.proofs.reading.read_from.Goals as goal

pub returns : goal.returns
returns c = run_found c.args.start c.args.text.now c.run.result c.run.ensures
