use Rattle.asset_names.proofs.Clean.{no_clash}
use Rattle.asset_names.proofs.laws.no_clash.Goals as goal

pub returns : goal.returns
returns c = no_clash
