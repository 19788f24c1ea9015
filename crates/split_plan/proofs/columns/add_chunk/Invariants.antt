use Rattle.std.proofs.Common.{◌≡◌, ◌≢◌, ℕ, ◌<◌, ◌≤◌, ◌-◌, ◌||◌, [], length, slice_index_or}
use Rattle.chunk_graph.specs.Chunks.{is_in}
use Rattle.split_plan.proofs.columns.add_chunk.Given as goal

abbrev pub invariant-loop-module : goal.invariant-loop-module
invariant-loop-module l = record {
  bound : l.at ≤ length l.mods;
  len : length l.rows.items ≡ length l.initial.rows.items;
  lens : (m : ℕ) → length (slice_index_or l.rows.items m []) ≡ length (slice_index_or l.initial.rows.items m []);
  here : (m : ℕ) → m < l.at → is_in (slice_index_or l.rows.items m []) l.chunk ≡ (is_in (slice_index_or l.initial.rows.items m []) l.chunk || is_in l.mods m);
  later : (m : ℕ) → l.at ≤ m → is_in (slice_index_or l.rows.items m []) l.chunk ≡ is_in (slice_index_or l.initial.rows.items m []) l.chunk;
  elsewhere : (m i : ℕ) → i ≢ l.chunk → is_in (slice_index_or l.rows.items m []) i ≡ is_in (slice_index_or l.initial.rows.items m []) i;
}

abbrev pub decreases-loop-module : goal.decreases-loop-module
decreases-loop-module l = length l.mods - l.at
