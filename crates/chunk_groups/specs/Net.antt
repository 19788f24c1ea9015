-- Groups of modules and what leads from one group to another (webpack, "Code Splitting"; the words are this project's).
-- Groups and modules are named by their numbers.
use Rattle.std.specs.Prelude.{ℕ, Bool, List, Contains}
use Rattle.graph_types.specs.Reached.{Walk}

pub record Net : Type 0 where
  -- how many groups there are
  pub groups : ℕ
  pub is_entry : ℕ → Bool
  -- the modules with which a group begins
  pub roots : ℕ → List ℕ
  -- the modules in which the blocks stand that load a group
  pub homes : ℕ → List ℕ
  -- the modules that a module needs at once
  pub targets : ℕ → List ℕ

-- a walk of zero or more steps leads from a root of the group to the module
abbrev pub Reaches : Net → ℕ → ℕ → Type 0
Reaches net g m = (steps : ℕ) × Walk net.targets (net.roots g) m steps

-- a block that loads group g stands in a module that group p reaches
abbrev pub Leads : Net → ℕ → ℕ → Type 0
Leads net p g = (home : ℕ) × Contains (net.homes g) home × Reaches net p home
