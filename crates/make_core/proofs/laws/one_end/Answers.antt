use Rattle.make_core.proofs.Runs.{accepted_whole, one_first}
use Rattle.make_core.proofs.laws.one_end.Goals as goal

pub returns : goal.returns
returns c = record { accepted = accepted_whole; first = one_first }
