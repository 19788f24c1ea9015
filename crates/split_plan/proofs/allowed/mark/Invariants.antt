use Rattle.std.proofs.Common.{◌≡◌, ℕ, ◌||◌, length, take}
use Rattle.chunk_graph.specs.Chunks.{is_in, has}
use Rattle.split_plan.proofs.allowed.mark.Given as goal

abbrev pub invariant-loop-chunk : goal.invariant-loop-chunk
invariant-loop-chunk l = record {
  len : length l.row ≡ length l.initial.row;
  places : (i : ℕ) → is_in l.row i ≡ (is_in l.initial.row i || has i (take l.chunk-index l.list));
}
