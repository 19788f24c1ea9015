use Rattle.std.proofs.Common.{◌≡◌, map, take}
use Rattle.fault_place.specs.Fault.{line_of}
use Rattle.pack_run.proofs.verdict_lines.fault_lines.Given as goal

abbrev pub invariant-loop-fault : goal.invariant-loop-fault
invariant-loop-fault l = l.lines.items ≡ map line_of (take l.fault-index l.faults)
