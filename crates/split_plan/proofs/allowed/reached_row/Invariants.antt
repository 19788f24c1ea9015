use Rattle.std.proofs.Common.{◌≡◌, ℕ, length}
use Rattle.chunk_graph.specs.Chunks.{is_in}
use Rattle.split_plan.specs.inner.Rows.{reached_in}
use Rattle.split_plan.proofs.allowed.reached_row.Given as goal

abbrev pub invariant-loop-group : goal.invariant-loop-group
invariant-loop-group l = record {
  len : length l.row ≡ length l.state.chunks;
  places : (i : ℕ) → is_in l.row i ≡ reached_in l.most l.low l.group l.state i;
}
