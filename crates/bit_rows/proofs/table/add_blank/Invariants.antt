use Rattle.std.proofs.Common.{◌≡◌, ◌-◌, ◌++◌, length, replicate}
use Rattle.bit_rows.specs.Table.{blank}
use Rattle.bit_rows.proofs.table.add_blank.Given as goal

abbrev pub invariant-loop : goal.invariant-loop
invariant-loop l = l.rows.items ≡ l.initial.rows.items ++ replicate (l.counter - length l.initial.rows.items) (blank l.width)
