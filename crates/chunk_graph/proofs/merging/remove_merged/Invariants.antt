use Rattle.std.proofs.Common.{◌≡◌, ℕ, ◌<◌, ◌≤◌, length, not, ◌||◌, ◌==◌, slice_index, slice_index_or}
use Rattle.chunk_graph.specs.Chunks.{no_chunk}
use Rattle.chunk_graph.proofs.merging.remove_merged.Given as goal

abbrev pub invariant-loop-place : goal.invariant-loop-place
invariant-loop-place l = record {
  len : length l.chunks.items ≡ length l.initial.chunks.items;
  done : (k : ℕ) → k < l.place → slice_index_or l.chunks.items k no_chunk ≡ record (slice_index_or l.initial.chunks.items k no_chunk) { gone = (slice_index_or l.initial.chunks.items k no_chunk).gone || not (slice_index l.into k == k) };
  left : (k : ℕ) → l.place ≤ k → slice_index_or l.chunks.items k no_chunk ≡ slice_index_or l.initial.chunks.items k no_chunk;
}
