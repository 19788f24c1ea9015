use Rattle.chunk_groups.proofs.Growing.{each-has-history}
use Rattle.chunk_groups.proofs.laws.each_group_has_a_history.Goals as goal

pub returns : goal.returns
returns c = each-has-history
