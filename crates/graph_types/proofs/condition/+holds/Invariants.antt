use Rattle.std.proofs.Common.{◌≡◌, take, true, false}
use Rattle.std.specs.List.{list_all, list_any}
use Rattle.graph_types.specs.Condition.{holds}
use Rattle.graph_types.proofs.condition.+holds.Given as goal

abbrev pub invariant-all_hold-loop-condition : goal.invariant-all_hold-loop-condition
invariant-all_hold-loop-condition l = list_all (holds l.path) (take l.condition-index l.conditions) ≡ true

abbrev pub invariant-some_holds-loop-condition : goal.invariant-some_holds-loop-condition
invariant-some_holds-loop-condition l = list_any (holds l.path) (take l.condition-index l.conditions) ≡ false
