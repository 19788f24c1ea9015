use Rattle.std.proofs.Common.{◌≡◌, ℕ, ◌<◌, length}
use Rattle.chunk_graph.specs.Chunks.{is_in}
use Rattle.split_plan.specs.Shares.{may_share}
use Rattle.split_plan.proofs.allowed.allowed_chunks.Given as goal

abbrev pub invariant-loop-i : goal.invariant-loop-i
invariant-loop-i l = record {
  len : length l.row ≡ length l.state.chunks;
  places : (k : ℕ) → k < l.i → is_in l.row k ≡ may_share l.rule l.forced l.state k;
}
