use Rattle.split_plan.proofs.Found.{same_from_order}
use Rattle.split_plan.proofs.laws.no_ties.Goals as goal

pub returns : goal.returns
returns c = same_from_order
