use Rattle.make_core.proofs.Soundness.{whole_when_quiet}
use Rattle.make_core.proofs.laws.quiet_is_whole.Goals as goal

pub returns : goal.returns
returns c = whole_when_quiet
