-- Rows as lists of truth values, place by place. All of these are this project's.
use Rattle.std.specs.Prelude.{◌≡◌, ℕ, ◌<◌, ◌≤◌, Bool, true, false, not, ◌&&◌, ◌||◌, List, slice_index_or}
use Rattle.std.specs.Simd.Lanes.{zip2}

-- the places that are true in either row
abbrev pub union : List Bool → List Bool → List Bool
union xs ys = zip2 (λ x y. x || y) xs ys

-- the places that are true in both rows
abbrev pub meet : List Bool → List Bool → List Bool
meet xs ys = zip2 (λ x y. x && y) xs ys

-- the places that are true in the first row and not in the second
abbrev pub minus : List Bool → List Bool → List Bool
minus xs ys = zip2 (λ x y. x && not y) xs ys

-- the place is there, and is true
abbrev pub IsTrueAt : List Bool → ℕ → Type 0
IsTrueAt row at = slice_index_or row at false ≡ true

-- each true place of the first row is a true place of the second
abbrev pub IsSubset : List Bool → List Bool → Type 0
IsSubset xs ys = (at : ℕ) → IsTrueAt xs at → IsTrueAt ys at

-- no place from `low` on and below `high` is true
abbrev pub NoneTrue : List Bool → ℕ → ℕ → Type 0
NoneTrue row low high = (at : ℕ) → low ≤ at → at < high → slice_index_or row at false ≡ false

-- the place is true, it is not below `low`, and no place between the two is true
pub record IsNext (row : List Bool) (low place : ℕ) : Type 0 where
  pub not_below : low ≤ place
  pub is_true : IsTrueAt row place
  pub least : NoneTrue row low place
