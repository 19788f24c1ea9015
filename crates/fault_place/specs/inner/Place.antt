-- A place that is known of a text (this project).
use Rattle.std.specs.Prelude.{◌≡◌, ℕ, ◌+◌, ◌≤◌, List, length}
use Rattle.fault_place.specs.Place.{spot_at}
use Rattle.fault_place.specs.declared.place.Spot.{Spot}

pub record IsSpotIn (text : List ℕ) (spot : Spot) : Type 0 where
  pub within : spot.offset ≤ length text
  pub is : spot ≡ spot_at text spot.offset
  pub few_lines : spot.line ≤ spot.offset + 1
  pub few_columns : spot.column ≤ spot.offset + 1
