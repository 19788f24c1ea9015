use Rattle.seal_build.proofs.FinalServing.{final-serves}
use Rattle.seal_build.proofs.laws.final_serves.Goals as goal

pub returns : goal.returns
returns c = final-serves
