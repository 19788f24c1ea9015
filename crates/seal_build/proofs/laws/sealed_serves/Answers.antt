use Rattle.seal_build.proofs.Written.{sealed-serves}
use Rattle.seal_build.proofs.laws.sealed_serves.Goals as goal

pub returns : goal.returns
returns c = sealed-serves
