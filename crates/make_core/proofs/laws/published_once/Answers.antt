use Rattle.make_core.specs.Core.{start}
use Rattle.make_core.proofs.Runs.{one_publication}
use Rattle.make_core.proofs.laws.published_once.Goals as goal

pub returns : goal.returns
returns c = λ plan files workers. one_publication plan (start files workers)
