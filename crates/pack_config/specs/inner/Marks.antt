-- Places that are known (this project).
use Rattle.std.specs.Prelude.{◌≡◌, ℕ, List}
use Rattle.fault_place.specs.declared.place.Spot.{Spot}
use Rattle.fault_place.specs.Place.{spot_at}

-- it is the place of its offset
abbrev pub IsMark : List ℕ → Spot → Type 0
IsMark text spot = spot ≡ spot_at text spot.offset
