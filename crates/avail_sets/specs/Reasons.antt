-- Why a module is placed in a group (this project): a load history that ends with the group and in which no earlier group
-- reaches the module.
use Rattle.std.specs.Prelude.{◌≡◌, ℕ, ◌<◌, ◌⊎◌, List, [], ◌∷◌, ◌++◌, length, map}
use Rattle.pack_util.specs.declared.number.GroupNo.{GroupNo}
use Rattle.chunk_groups.specs.Histories.{IsHistory}
use Rattle.chunk_groups.specs.Net.{Net, Reaches}
use Rattle.chunk_groups.specs.Serving.{NoneBrings}
use Rattle.avail_sets.specs.Availability.{IsAvailable}

abbrev pub group_numbers : List GroupNo → List ℕ
group_numbers groups = map (λ g. g.0) groups

pub record IsReason (net : Net) (g m : ℕ) (members : List ℕ) : Type 0 where
  pub earlier : List ℕ
  pub ends : members ≡ earlier ++ g ∷ []
  pub history : IsHistory net members
  pub none : NoneBrings (Reaches net) earlier m

-- the first list is not greater than the second, number by number
abbrev pub IsNotGreater : List ℕ → List ℕ → Type 0
IsNotGreater [] ys = Unit {0}
IsNotGreater (x ∷ xs) [] = ⊥
IsNotGreater (x ∷ xs) (y ∷ ys) = (x < y) ⊎ ((x ≡ y) × IsNotGreater xs ys)

-- the first list is shorter, or as short and not greater
abbrev pub IsNotAfter : List ℕ → List ℕ → Type 0
IsNotAfter xs ys = (length xs < length ys) ⊎ ((length xs ≡ length ys) × IsNotGreater xs ys)

-- the shortest reason, and of equally short ones the least
pub record IsLeastReason (net : Net) (g m : ℕ) (members : List ℕ) : Type 0 where
  pub reason : IsReason net g m members
  pub least : (other : List ℕ) → IsReason net g m other → IsNotAfter members other

abbrev pub IsNotPlaced : Net → ℕ → ℕ → Type 0
IsNotPlaced net g m = (Reaches net g m → ⊥) ⊎ IsAvailable net g m
