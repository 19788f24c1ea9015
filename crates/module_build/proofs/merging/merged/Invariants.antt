use Rattle.std.proofs.Common.{◌≡◌, ◌++◌, ◌+◌, ◌-◌, ◌≤◌, drop, length}
use Rattle.module_build.specs.Merged.{merged}
use Rattle.module_build.proofs.merging.merged.Given as goal

abbrev pub invariant-loop-at : goal.invariant-loop-at
invariant-loop-at l = record {
  all : l.all.items ++ merged (drop l.at l.notes) (drop l.other l.others) ≡ merged l.notes l.others;
  first : l.at ≤ length l.notes;
  second : l.other ≤ length l.others;
}

abbrev pub decreases-loop-at : goal.decreases-loop-at
decreases-loop-at l = (length l.notes - l.at) + (length l.others - l.other)
