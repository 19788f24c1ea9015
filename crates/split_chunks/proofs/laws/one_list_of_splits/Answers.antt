use Rattle.split_chunks.proofs.OneList.{splits_are_one}
use Rattle.split_chunks.proofs.laws.one_list_of_splits.Goals as goal

pub returns : goal.returns
returns c = splits_are_one
