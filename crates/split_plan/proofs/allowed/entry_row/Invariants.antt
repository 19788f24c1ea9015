use Rattle.std.proofs.Common.{◌≡◌, ℕ, length, take}
use Rattle.std.specs.List.{list_any}
use Rattle.chunk_graph.specs.Chunks.{is_in, has}
use Rattle.split_plan.proofs.allowed.entry_row.Given as goal

abbrev pub invariant-loop-group : goal.invariant-loop-group
invariant-loop-group l = record {
  len : length l.row ≡ length l.state.chunks;
  places : (i : ℕ) → is_in l.row i ≡ list_any (has i) (take l.group l.state.groups);
}
