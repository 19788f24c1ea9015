-- The places of a text of three lines and the start of a fourth.
use Rattle.std.specs.Prelude.{◌≡◌, ℕ, List, [], ◌∷◌, ◌++◌, codes}
use Rattle.fault_place.specs.Place.{place_in, spot_at}
use Rattle.fault_place.specs.declared.place.Place.{Place}
use Rattle.fault_place.specs.declared.place.Spot.{Spot}

abbrev pub three_lines : List ℕ
three_lines = codes "ab" ++ 10 ∷ codes "cd" ++ 10 ∷ 10 ∷ []

abbrev pub spot : ℕ → ℕ → ℕ → Spot
spot offset line column = record { offset = offset; line = line; column = column }

abbrev pub place : ℕ → ℕ → ℕ → Place
place offset line column = record { path = codes "a.js"; offset = offset; line = line; column = column }

pub record SpotsAreFound : Type 0 where
  pub at_0 : spot_at three_lines 0 ≡ spot 0 1 1
  pub at_2 : spot_at three_lines 2 ≡ spot 2 1 3
  pub at_3 : spot_at three_lines 3 ≡ spot 3 2 1
  pub at_5 : spot_at three_lines 5 ≡ spot 5 2 3
  pub at_6 : spot_at three_lines 6 ≡ spot 6 3 1
  pub at_7 : spot_at three_lines 7 ≡ spot 7 4 1

pub record PlacesAreFound : Type 0 where
  pub at_0 : place_in (codes "a.js") three_lines 0 ≡ place 0 1 1
  pub at_2 : place_in (codes "a.js") three_lines 2 ≡ place 2 1 3
  pub at_3 : place_in (codes "a.js") three_lines 3 ≡ place 3 2 1
  pub at_5 : place_in (codes "a.js") three_lines 5 ≡ place 5 2 3
  pub at_6 : place_in (codes "a.js") three_lines 6 ≡ place 6 3 1
  pub at_7 : place_in (codes "a.js") three_lines 7 ≡ place 7 4 1
