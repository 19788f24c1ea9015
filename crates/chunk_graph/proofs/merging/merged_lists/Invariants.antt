use Rattle.std.proofs.Common.{◌≡◌, map, take}
use Rattle.chunk_graph.specs.Moves.{merged_list}
use Rattle.chunk_graph.proofs.merging.merged_lists.Given as goal

abbrev pub invariant-loop-group : goal.invariant-loop-group
invariant-loop-group l = l.lists.items ≡ map (merged_list l.chunks) (take l.group-index l.groups)
