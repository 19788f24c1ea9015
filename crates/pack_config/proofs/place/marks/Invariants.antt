use Rattle.std.proofs.Common.{◌≡◌, ◌*◌, All}
use Rattle.fault_place.specs.Place.{spot_at}
use Rattle.pack_config.specs.inner.Marks.{IsMark}
use Rattle.pack_config.proofs.place.marks.Given as goal

abbrev pub invariant-loop-number : goal.invariant-loop-number
invariant-loop-number l = record { marks : All (IsMark l.text) l.marks.items; spot : l.spot ≡ spot_at l.text (l.number * 256) }
