use Rattle.std.proofs.Common.{◌≡◌, map}
use Rattle.std.specs.List.{range_with_len}
use Rattle.chunk_graph.specs.Moves.{merged_into}
use Rattle.chunk_graph.proofs.merging.all_merged_into.Given as goal

abbrev pub invariant-loop-place : goal.invariant-loop-place
invariant-loop-place l = l.into.items ≡ map (merged_into l.chunks) (range_with_len 0 l.place)
