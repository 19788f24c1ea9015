-- Load histories (this project): in which order a page may load groups.
use Rattle.std.specs.Prelude.{◌≡◌, ℕ, ◌<◌, ◌⊎◌, false, List, [], ◌∷◌, ◌++◌, IsTrue, Contains}
use Rattle.chunk_groups.specs.Net.{Net, Leads}

-- an entry's group may be loaded at any time
abbrev pub FollowsAsEntry : Net → List ℕ → ℕ → Type 0
FollowsAsEntry net earlier g = IsTrue (net.is_entry g)

-- any other group is loaded by a block in a module that an earlier group reaches
abbrev pub FollowsOnDemand : Net → List ℕ → ℕ → Type 0
FollowsOnDemand net earlier g = (net.is_entry g ≡ false) × ((p : ℕ) × Contains earlier p × Leads net p g)

-- the group may be loaded after the earlier ones
pub record MayFollow (net : Net) (earlier : List ℕ) (g : ℕ) : Type 0 where
  pub is_group : g < net.groups
  pub how : FollowsAsEntry net earlier g ⊎ FollowsOnDemand net earlier g

-- the later groups may be loaded one after another, after the earlier ones
abbrev pub Follow : Net → List ℕ → List ℕ → Type 0
Follow net earlier [] = Unit {0}
Follow net earlier (g ∷ later) = MayFollow net earlier g × Follow net (earlier ++ g ∷ []) later

abbrev pub IsHistory : Net → List ℕ → Type 0
IsHistory net members = Follow net [] members
