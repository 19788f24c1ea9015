use Rattle.graph_types.proofs.Reached.{one-list}
use Rattle.graph_types.proofs.laws.one_reached_list.Goals as goal

pub returns : goal.returns
returns c = one-list
