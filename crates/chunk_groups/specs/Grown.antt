-- How groups come about (this project): a module is found where steps lead to it from first modules, each step to a module
-- that is needed at once or on demand, and each block that is found has a group.
use Rattle.std.specs.Prelude.{◌≡◌, ℕ, ◌<◌, ◌++◌, false, List, IsTrue, Contains}
use Rattle.graph_types.specs.Reached.{Walk}
use Rattle.chunk_groups.specs.Net.{Net}

pub record IsGrown (net : Net) (on_demand : ℕ → List ℕ) (first : List ℕ) : Type 0 where
  -- each first module is a root of an entry's group
  pub entries : (m : ℕ) → Contains first m → (g : ℕ) × (g < net.groups) × IsTrue (net.is_entry g) × Contains (net.roots g) m
  -- what a module needs on demand is a root of a group that a block in the module loads
  pub blocks : (home m : ℕ) → Contains (on_demand home) m → (g : ℕ) × (g < net.groups) × (net.is_entry g ≡ false) × Contains (net.homes g) home × Contains (net.roots g) m
  -- a block of each group that is no entry's stands in a module that is found
  pub found : (g : ℕ) → g < net.groups → net.is_entry g ≡ false → (home : ℕ) × Contains (net.homes g) home × ((steps : ℕ) × Walk (λ m. net.targets m ++ on_demand m) first home steps)
