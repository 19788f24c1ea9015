-- The parts between separators, by the lists behind each of them (this project).
use Rattle.std.specs.Prelude.{ℕ, suc, zero, Bool, nat_lt, List, [], ◌∷◌, length, if◌then◌else◌}

-- the members before the first separator
abbrev pub front : {X : Type 0} → (X → Bool) → List X → List X
front separates [] = []
front separates (x ∷ xs) = if separates x then [] else x ∷ front separates xs

-- what stands behind each separator, up to the end
abbrev pub tails : {X : Type 0} → (X → Bool) → List X → List (List X)
tails separates [] = []
tails separates (x ∷ xs) = if separates x then xs ∷ tails separates xs else tails separates xs

-- how many lists come before the first that is shorter than this
abbrev pub long_ones : {X : Type 0} → ℕ → List (List X) → ℕ
long_ones size [] = zero
long_ones size (xs ∷ more) = if nat_lt (length xs) size then zero else suc (long_ones size more)
