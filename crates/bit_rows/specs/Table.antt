-- Tables of rows of one length. All of these are this project's.
use Rattle.std.specs.Prelude.{◌≡◌, ℕ, Bool, false, List, length, replicate}
use Rattle.std.specs.List.{All}

-- the length of each row, and the rows in order
pub record Table : Type 0 where
  pub width : ℕ
  pub rows : List (List Bool)

-- each row has the table's length
abbrev pub IsEven : Table → Type 0
IsEven table = All (λ row. length row ≡ table.width) table.rows

-- a row with no true place
abbrev pub blank : ℕ → List Bool
blank len = replicate len false
