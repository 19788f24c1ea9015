use Rattle.std.proofs.Common.{ℕ, ◌<◌, ◌≤◌, ◌-◌, length}
use Rattle.split_plan.specs.inner.Search.{IsEarlier}
use Rattle.split_plan.proofs.unnamed.is_first.Given as goal

abbrev pub invariant-loop-other : goal.invariant-loop-other
invariant-loop-other l = record {
  bound : l.at ≤ length l.mods;
  none : (m : ℕ) → m < l.at → ¬ (IsEarlier l.rule l.shares l.mods l.module m);
}

abbrev pub decreases-loop-other : goal.decreases-loop-other
decreases-loop-other l = length l.mods - l.at
