use Rattle.std.proofs.Common.{◌≡◌, ◌≤◌, ◌+◌, ◌==◌, not, length, take, reverse, take_while}
use Rattle.fault_place.proofs.place.column_after.Given as goal

abbrev pub invariant-loop-byte : goal.invariant-loop-byte
invariant-loop-byte l = record {
  so_far : l.column ≡ length (take_while (λ byte. not (byte == 10)) (reverse (take l.byte-index l.before))) + 1;
  no_more : l.column ≤ l.byte-index + 1;
}
