use Rattle.make_core.proofs.Soundness.{done_when_quiet}
use Rattle.make_core.proofs.laws.quiet_is_reached.Goals as goal

pub returns : goal.returns
returns c = done_when_quiet
