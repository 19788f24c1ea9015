use Rattle.std.proofs.Common.{◌≡◌, ℕ, ◌<◌, length, take}
use Rattle.chunk_graph.specs.Chunks.{is_in, has}
use Rattle.split_chunks.proofs.lists.chunk_row.Given as goal

abbrev pub invariant-loop-chunk : goal.invariant-loop-chunk
invariant-loop-chunk l = record {
  len : length l.row ≡ l.len;
  places : (i : ℕ) → i < l.len → is_in l.row i ≡ has i (take l.chunk-index l.list);
}
