use Rattle.std.proofs.Common.{◌≡◌, ◌==◌, ℕ, ◌<◌, ◌≤◌, length, slice_index_or}
use Rattle.chunk_graph.specs.Chunks.{no_chunk, is_in}
use Rattle.chunk_graph.specs.Moves.{moved_one}
use Rattle.chunk_graph.proofs.moving.move_all.Given as goal

abbrev pub invariant-loop-i : goal.invariant-loop-i
invariant-loop-i l = record {
  len : length l.chunks.items ≡ length l.initial.chunks.items;
  done : (k : ℕ) → k < l.i → slice_index_or l.chunks.items k no_chunk ≡ moved_one l.modules (k == l.to) (is_in l.from k) (slice_index_or l.initial.chunks.items k no_chunk);
  left : (k : ℕ) → l.i ≤ k → slice_index_or l.chunks.items k no_chunk ≡ slice_index_or l.initial.chunks.items k no_chunk;
}
