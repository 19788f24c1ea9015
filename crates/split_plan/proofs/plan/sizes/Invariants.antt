use Rattle.std.proofs.Common.{◌≡◌, map, take}
use Rattle.split_plan.proofs.plan.sizes.Given as goal

abbrev pub invariant-loop-module : goal.invariant-loop-module
invariant-loop-module l = l.sizes.items ≡ map (λ rec. rec.size) (take l.module l.graph.records)
