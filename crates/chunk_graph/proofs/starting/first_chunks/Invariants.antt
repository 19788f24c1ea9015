use Rattle.std.proofs.Common.{◌≡◌, map}
use Rattle.std.specs.List.{range_with_len}
use Rattle.chunk_graph.specs.Moves.{first_chunk}
use Rattle.chunk_graph.proofs.starting.first_chunks.Given as goal

abbrev pub invariant-loop-group : goal.invariant-loop-group
invariant-loop-group l = l.chunks.items ≡ map (first_chunk l.placed l.entries l.names) (range_with_len 0 l.group)
