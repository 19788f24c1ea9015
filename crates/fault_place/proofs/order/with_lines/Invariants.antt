use Rattle.std.proofs.Common.{◌≡◌, map, take}
use Rattle.fault_place.proofs.order.with_lines.Given as goal

abbrev pub invariant-loop-fault : goal.invariant-loop-fault
invariant-loop-fault l = map (λ lined. lined.fault) l.all.items ≡ take l.fault-index l.faults
