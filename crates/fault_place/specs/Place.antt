-- Places in a text (this project): lines end at LF, and lines and columns count from 1, columns in bytes.
use Rattle.std.specs.Prelude.{ℕ, ◌+◌, ◌==◌, not, List, take, length, reverse, count_by, take_while}
use Rattle.fault_place.specs.declared.place.Place.{Place}
use Rattle.fault_place.specs.declared.place.Spot.{Spot}

-- one more than the LFs before the offset
abbrev pub line_at : List ℕ → ℕ → ℕ
line_at text offset = count_by (λ byte. byte == 10) (take offset text) + 1

-- one more than the bytes since the last LF before the offset
abbrev pub column_at : List ℕ → ℕ → ℕ
column_at text offset = length (take_while (λ byte. not (byte == 10)) (reverse (take offset text))) + 1

-- the place of an offset, without a path
abbrev pub spot_at : List ℕ → ℕ → Spot
spot_at text offset = record { offset = offset; line = line_at text offset; column = column_at text offset }

-- the place of an offset in the text at a path
abbrev pub place_in : List ℕ → List ℕ → ℕ → Place
place_in path text offset = record { path = path; offset = offset; line = line_at text offset; column = column_at text offset }
