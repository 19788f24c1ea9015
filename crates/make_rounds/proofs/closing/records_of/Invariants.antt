use Rattle.std.proofs.Common.{◌≡◌, ◌++◌}
use Rattle.std.specs.Vec.Iter.{into_iter_items}
use Rattle.make_rounds.specs.inner.Closed.{present}
use Rattle.make_rounds.proofs.closing.records_of.Given as goal

abbrev pub invariant-loop-slot : goal.invariant-loop-slot
invariant-loop-slot l = present l.fn.slots.items ≡ l.records.items ++ present (into_iter_items l.slot-iterator)
