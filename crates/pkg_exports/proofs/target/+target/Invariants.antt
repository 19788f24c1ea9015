use Rattle.std.proofs.Common.{◌≡◌, map, drop, length, ◌-◌}
use Rattle.pkg_exports.specs.Targets.{list_outcome, outcome_of}
use Rattle.pkg_exports.proofs.Walks.{list_from, object_from}
use Rattle.pkg_exports.proofs.target.+target.Given as goal

abbrev pub invariant-list_outcome-loop-member : goal.invariant-list_outcome-loop-member
invariant-list_outcome-loop-member l =
    list_from l.last (map (outcome_of l.star l.conditions) (drop l.member-index l.members)) ≡ list_outcome (map (outcome_of l.star l.conditions) l.members)

abbrev pub invariant-object_outcome-loop-left : goal.invariant-object_outcome-loop-left
invariant-object_outcome-loop-left l =
    record { same : object_from l.star l.conditions l.left ≡ object_from l.star l.conditions l.fn.pairs; behind : l.left ≡ drop (length l.fn.pairs - length l.left) l.fn.pairs }

abbrev pub decreases-object_outcome-loop-left : goal.decreases-object_outcome-loop-left
decreases-object_outcome-loop-left l = length l.left
