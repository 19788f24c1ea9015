use Rattle.split_plan.proofs.Falling.{split-falls}
use Rattle.split_plan.proofs.laws.pairs_fall.Goals as goal

pub returns : goal.returns
returns c = split-falls
