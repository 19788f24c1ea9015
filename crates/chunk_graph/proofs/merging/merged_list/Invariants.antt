use Rattle.std.proofs.Common.{◌≡◌, take}
use Rattle.chunk_graph.specs.Moves.{merged_list}
use Rattle.chunk_graph.proofs.merging.merged_list.Given as goal

abbrev pub invariant-loop-chunk : goal.invariant-loop-chunk
invariant-loop-chunk l = l.merged ≡ merged_list l.chunks (take l.chunk-index l.list)
