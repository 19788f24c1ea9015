use Rattle.seal_build.proofs.OneOutcome.{one-outcome}
use Rattle.seal_build.proofs.laws.one_outcome.Goals as goal

pub returns : goal.returns
returns c = one-outcome
