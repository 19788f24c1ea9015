-- The first chunk of each name met so far, as a map from names.
use Rattle.std.specs.Prelude.{◌≡◌, ℕ, List, bytes_eq, Option, Some, None, if◌then◌else◌}
use Rattle.std.specs.Borrow.{Bor}
use Rattle.std.specs.HashMap.{HashMap, get_by}
use Rattle.std.specs.Option.{option_or}
use Rattle.std.specs.declared.hash.FoldHasher.{FoldHasher}
use Rattle.std.specs.declared.hash.BuildHasherDefault.{BuildHasherDefault}

abbrev pub Firsts : Type 0
Firsts = HashMap (Bor (List ℕ)) ℕ (BuildHasherDefault FoldHasher)

-- the chunk that a name leads to
abbrev pub first_id : Firsts → List ℕ → Option ℕ
first_id firsts name = get_by (λ key. bytes_eq name key.now) firsts

-- a name that led nowhere leads to the chunk, and each other one where it led
abbrev pub IsKept : Firsts → Firsts → List ℕ → ℕ → Type 0
IsKept old new name id =
    (other : List ℕ) → first_id new other ≡ option_or (first_id old other) (if bytes_eq other name then Some id else None)
