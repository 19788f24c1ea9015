use Rattle.std.proofs.Common.{◌≡◌, ◌≤◌, ◌-◌}
use Rattle.fault_place.specs.Place.{spot_at}
use Rattle.pack_config.proofs.place.spot_after.Given as goal

abbrev pub invariant-loop-spot : goal.invariant-loop-spot
invariant-loop-spot l = record { place : l.spot ≡ spot_at l.text l.spot.offset; within : l.spot.offset ≤ l.offset }

abbrev pub decreases-loop-spot : goal.decreases-loop-spot
decreases-loop-spot l = l.offset - l.spot.offset
