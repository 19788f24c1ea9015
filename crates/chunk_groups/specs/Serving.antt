-- What groups bring to a page along load histories (this project). A group brings modules: those that it reaches, those
-- that are placed in it, or those that its written chunks hold.
use Rattle.std.specs.Prelude.{◌≡◌, ℕ, ◌<◌, ◌⊎◌, Bool, false, List, [], ◌∷◌, ◌++◌, IsTrue, Contains}
use Rattle.chunk_groups.specs.Histories.{IsHistory}
use Rattle.chunk_groups.specs.Net.{Net, Leads, Reaches}

-- one of these groups brings the module
abbrev pub HasOne : (ℕ → ℕ → Type 0) → List ℕ → ℕ → Type 0
HasOne brings members m = (p : ℕ) × Contains members p × brings p m

-- whenever the group is loaded, an earlier group of the load history has brought the module
abbrev pub IsThere : Net → (ℕ → ℕ → Type 0) → ℕ → ℕ → Type 0
IsThere net brings g m = (earlier : List ℕ) → IsHistory net (earlier ++ g ∷ []) → HasOne brings earlier m

abbrev pub NoneBrings : (ℕ → ℕ → Type 0) → List ℕ → ℕ → Type 0
NoneBrings brings members m = (p : ℕ) → Contains members p → brings p m → ⊥

-- along some load history that ends with the group, no earlier group has brought the module
abbrev pub MayLack : Net → (ℕ → ℕ → Type 0) → ℕ → ℕ → Type 0
MayLack net brings g m = (earlier : List ℕ) × IsHistory net (earlier ++ g ∷ []) × NoneBrings brings earlier m

-- what is placed in each group
abbrev pub Placement : Type 0
Placement = ℕ → ℕ → Bool

abbrev pub Holds : Placement → ℕ → ℕ → Type 0
Holds placed g m = IsTrue (placed g m)

-- along each load history, each module that a group reaches is in that group or in an earlier one
abbrev pub Serves : Net → Placement → Type 0
Serves net placed = (earlier later : List ℕ) (g m : ℕ) → IsHistory net (earlier ++ g ∷ later) → Reaches net g m → Holds placed g m ⊎ HasOne (Holds placed) earlier m

-- group p may load group g on demand
pub record Opens (net : Net) (p g : ℕ) : Type 0 where
  pub from : p < net.groups
  pub to : g < net.groups
  pub on_demand : net.is_entry g ≡ false
  pub leads : Leads net p g

-- rows of modules that are there when a group is loaded: an entry's is empty, and what a group has there, each group that
-- may load it has there or brings
pub record IsSettled (net : Net) (brings : ℕ → ℕ → Type 0) (rows : Placement) : Type 0 where
  pub entries : (g m : ℕ) → IsTrue (net.is_entry g) → IsTrue (rows g m) → ⊥
  pub handed : (p g m : ℕ) → Opens net p g → IsTrue (rows g m) → IsTrue (rows p m) ⊎ brings p m

-- each group has only modules that it reaches
abbrev pub IsWithinReach : Net → Placement → Type 0
IsWithinReach net placed = (g m : ℕ) → Holds placed g m → Reaches net g m
