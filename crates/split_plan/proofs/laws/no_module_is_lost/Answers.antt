use Rattle.split_plan.proofs.Keeping.{kept-split}
use Rattle.split_plan.proofs.laws.no_module_is_lost.Goals as goal

pub returns : goal.returns
returns c = kept-split
