-- The places of a list whose members pass a test (this project).
use Rattle.std.specs.Prelude.{ℕ, suc, Bool, List, [], ◌∷◌, if◌then◌else◌}

-- their numbers, where the list begins with this number
abbrev pub places_where : {A : Type 0} → (A → Bool) → ℕ → List A → List ℕ
places_where test from [] = []
places_where test from (x ∷ xs) = if test x then from ∷ places_where test (suc from) xs else places_where test (suc from) xs
