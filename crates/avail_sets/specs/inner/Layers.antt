-- Ways to a group along which nothing reaches a module, by their lengths (this project). A layer has the groups whose
-- shortest way has its number of steps.
use Rattle.std.specs.Prelude.{◌≡◌, ℕ, ◌+◌, ◌-◌, ◌<◌, ◌≤◌, Bool, false, List, [], ◌∷◌, length, slice_index_or, IsTrue, MatchOption, Option}
use Rattle.bit_rows.specs.Table.{Table}
use Rattle.chunk_groups.specs.Net.{Net, Reaches}
use Rattle.chunk_groups.specs.Rows.{bit, bit_in}
use Rattle.chunk_groups.specs.Serving.{Opens}
use Rattle.avail_sets.specs.Reasons.{IsNotGreater}

-- from p over the rest to g each group may load the next, and none before g reaches the module
abbrev pub IsPath : Net → ℕ → ℕ → ℕ → List ℕ → Type 0
IsPath net g m p [] = p ≡ g
IsPath net g m p (q ∷ rest) = Opens net p q × (Reaches net p m → ⊥) × IsPath net g m q rest

abbrev pub HasPath : Net → ℕ → ℕ → ℕ → ℕ → Type 0
HasPath net g m p steps = (rest : List ℕ) × IsPath net g m p rest × (length rest ≡ steps)

abbrev pub NoneShorter : Net → ℕ → ℕ → ℕ → ℕ → Type 0
NoneShorter net g m p steps = (k : ℕ) → k < steps → HasPath net g m p k → ⊥

-- rows with a place for each group
pub record AreEven (opened : Table) (entries left : List Bool) (layers : List (List Bool)) : Type 0 where
  pub some : 0 < length layers
  pub opened_rows : length opened.rows ≡ length left
  pub opened_width : opened.width ≡ length left
  pub entries_len : length entries ≡ length left
  pub layers_len : (i : ℕ) → i < length layers → length (slice_index_or layers i []) ≡ length left

-- the layers so far, and the groups that may be in a later one
pub record AreLayers (net : Net) (g m : ℕ) (layers : List (List Bool)) (left : List Bool) : Type 0 where
  pub some : 0 < length layers
  pub even : (i : ℕ) → i < length layers → length (slice_index_or layers i []) ≡ net.groups
  pub places : length left ≡ net.groups
  pub sound : (i p : ℕ) → i < length layers → IsTrue (bit_in layers i p) → HasPath net g m p i × NoneShorter net g m p i
  pub complete : (i p : ℕ) → i < length layers → HasPath net g m p i → NoneShorter net g m p i → IsTrue (bit_in layers i p)
  pub remains : (p : ℕ) → IsTrue (bit left p) → (Reaches net p m → ⊥) × NoneShorter net g m p (length layers)
  pub covers : (p : ℕ) → p < net.groups → (Reaches net p m → ⊥) → bit left p ≡ false → (i : ℕ) × (i < length layers) × IsTrue (bit_in layers i p)
  pub no_entry : (i p : ℕ) → i + 1 < length layers → IsTrue (bit_in layers i p) → net.is_entry p ≡ false

-- the groups that are left and may load one of the layer
pub record IsNextLayer (net : Net) (left layer next : List Bool) : Type 0 where
  pub len : length next ≡ net.groups
  pub sound : (p : ℕ) → IsTrue (bit next p) → IsTrue (bit left p) × ((q : ℕ) × IsTrue (bit layer q) × Opens net p q)
  pub complete : (p q : ℕ) → IsTrue (bit left p) → IsTrue (bit layer q) → Opens net p q → IsTrue (bit next p)

-- the least entry of the last layer
pub record IsFirst (net : Net) (layers : List (List Bool)) (first : ℕ) : Type 0 where
  pub in_last : IsTrue (bit_in layers (length layers - 1) first)
  pub is_entry : IsTrue (net.is_entry first)
  pub least : (p : ℕ) → IsTrue (bit_in layers (length layers - 1) p) → IsTrue (net.is_entry p) → first ≤ p

-- no entry has a way, or the first of the shortest ways
abbrev pub IsSearched : Net → ℕ → ℕ → List (List Bool) → Option ℕ → Type 0
IsSearched net g m layers found = MatchOption found
    ((p steps : ℕ) → IsTrue (net.is_entry p) → HasPath net g m p steps → ⊥)
    (λ first. ((left : List Bool) × AreLayers net g m layers left) × IsFirst net layers first)

-- a way of so many steps, and of these the least
pub record IsBest (net : Net) (g m p steps : ℕ) (rest : List ℕ) : Type 0 where
  pub path : IsPath net g m p rest
  pub long : length rest ≡ steps
  pub least : (other : List ℕ) → IsPath net g m p other → length other ≡ steps → IsNotGreater rest other
