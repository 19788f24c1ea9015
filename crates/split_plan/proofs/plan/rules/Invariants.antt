use Rattle.std.proofs.Common.{◌≡◌, map, take}
use Rattle.split_plan.specs.Plan.{rule_of}
use Rattle.split_plan.proofs.plan.rules.Given as goal

abbrev pub invariant-loop-group : goal.invariant-loop-group
invariant-loop-group l = l.rules.items ≡ map (rule_of l.graph.records) (take l.group-index l.groups)
