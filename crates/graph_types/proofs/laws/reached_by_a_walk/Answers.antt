use Rattle.graph_types.proofs.Walks.{by-a-walk, walks-reached}
use Rattle.graph_types.proofs.laws.reached_by_a_walk.Goals as goal

pub returns : goal.returns
returns c = record { members = by-a-walk; reached = walks-reached }
