use Rattle.split_plan.proofs.Found.{told_by}
use Rattle.split_plan.proofs.laws.told_by_chunks.Goals as goal

pub returns : goal.returns
returns c = told_by
