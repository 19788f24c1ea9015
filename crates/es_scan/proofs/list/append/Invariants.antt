use Rattle.std.proofs.Common.{◌≡◌, ◌++◌}
use Rattle.es_scan.proofs.list.append.Given as goal

abbrev pub invariant-loop-member : goal.invariant-loop-member
invariant-loop-member g l = l.list ≡ l.initial.list ++ l.yielded
