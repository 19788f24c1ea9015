use Rattle.std.proofs.Common.{◌≡◌, ℕ, ◌<◌, ◌≤◌, ◌-◌, ◌&&◌, false, length}
use Rattle.chunk_graph.specs.Chunks.{is_in}
use Rattle.split_plan.specs.inner.Search.{goes_with}
use Rattle.split_plan.proofs.unnamed.modules_of.Given as goal

abbrev pub invariant-loop-module : goal.invariant-loop-module
invariant-loop-module l = record {
  bound : l.at ≤ length l.mods;
  len : length l.row ≡ length l.mods;
  done : (m : ℕ) → m < l.at → is_in l.row m ≡ (is_in l.mods m && goes_with l.rule l.shares l.set m);
  left : (m : ℕ) → l.at ≤ m → is_in l.row m ≡ false;
}

abbrev pub decreases-loop-module : goal.decreases-loop-module
decreases-loop-module l = length l.mods - l.at
