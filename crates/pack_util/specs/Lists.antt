-- Relations over lists (this project).
use Rattle.std.specs.Prelude.{◌⊎◌, List, [], ◌∷◌}

-- a relation holds of the members at some place of two lists
abbrev pub AnyZip : {A B : Type 0} → (A → B → Type 0) → List A → List B → Type 0
AnyZip R [] ys = ⊥
AnyZip R (x ∷ xs) [] = ⊥
AnyZip R (x ∷ xs) (y ∷ ys) = R x y ⊎ AnyZip R xs ys
