use Rattle.std.proofs.Common.{◌≡◌, ℕ, ◌<◌, false, slice_index_or}
use Rattle.chunk_graph.specs.Chunks.{no_chunk}
use Rattle.chunk_graph.specs.Moves.{are_equal}
use Rattle.chunk_graph.proofs.merging.merged_into.Given as goal

abbrev pub invariant-loop-earlier : goal.invariant-loop-earlier
invariant-loop-earlier l = (j : ℕ) → j < l.earlier → are_equal (slice_index_or l.chunks l.place no_chunk) (slice_index_or l.chunks j no_chunk) ≡ false
