use Rattle.std.proofs.Common.{◌≡◌, ℕ, ◌<◌, length}
use Rattle.chunk_graph.specs.Chunks.{is_in}
use Rattle.split_plan.specs.inner.Search.{goes_with}
use Rattle.split_plan.proofs.claims.modules_with.Given as goal

abbrev pub invariant-loop-module : goal.invariant-loop-module
invariant-loop-module l = record {
  len : length l.row ≡ length l.shares;
  done : (m : ℕ) → m < l.«module» → is_in l.row m ≡ goes_with l.rule l.shares l.set m;
}
