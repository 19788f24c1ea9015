use Rattle.std.proofs.Common.{◌≡◌, take}
use Rattle.pack_run.proofs.outcome.copied.Given as goal

abbrev pub invariant-loop-fault : goal.invariant-loop-fault
invariant-loop-fault l = l.copy.items ≡ take l.fault-index l.faults
