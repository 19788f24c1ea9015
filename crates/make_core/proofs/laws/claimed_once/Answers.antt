use Rattle.make_core.specs.Core.{start}
use Rattle.make_core.proofs.Runs.{one_claim}
use Rattle.make_core.proofs.laws.claimed_once.Goals as goal

pub returns : goal.returns
returns c = λ plan files workers. one_claim plan (start files workers)
