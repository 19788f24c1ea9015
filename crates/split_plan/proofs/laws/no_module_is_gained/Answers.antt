use Rattle.split_plan.proofs.Keeping.{gained-split}
use Rattle.split_plan.proofs.laws.no_module_is_gained.Goals as goal

pub returns : goal.returns
returns c = gained-split
