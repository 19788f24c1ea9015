use Rattle.asset_names.proofs.Templates.{one_template}
use Rattle.asset_names.proofs.laws.one_template.Goals as goal

pub returns : goal.returns
returns c = one_template
