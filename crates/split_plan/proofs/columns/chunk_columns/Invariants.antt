use Rattle.std.proofs.Common.{◌≡◌, ℕ, ◌<◌, ◌≤◌, [], false, length, slice_index_or}
use Rattle.chunk_graph.specs.Chunks.{is_in, holds}
use Rattle.split_plan.proofs.columns.chunk_columns.Given as goal

abbrev pub invariant-loop-chunk : goal.invariant-loop-chunk
invariant-loop-chunk l = record {
  len : length l.columns.items ≡ l.width;
  lens : (m : ℕ) → m < l.width → length (slice_index_or l.columns.items m []) ≡ length l.state.chunks;
  here : (m i : ℕ) → m < l.width → i < l.chunk → is_in (slice_index_or l.columns.items m []) i ≡ holds l.state i m;
  later : (m i : ℕ) → m < l.width → l.chunk ≤ i → is_in (slice_index_or l.columns.items m []) i ≡ false;
}
