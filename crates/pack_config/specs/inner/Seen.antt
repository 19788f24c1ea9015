-- The names of the groups so far, as a set of them (this project).
use Rattle.std.specs.Prelude.{◌≡◌, ℕ, List}
use Rattle.std.specs.BTreeSet.{BTreeSet, contains}
use Rattle.std.specs.Cmp.Lexicographic.{slice_cmp}
use Rattle.std.specs.List.{list_any}
use Rattle.std.specs.Ordering.{nat_cmp}
use Rattle.json_order.specs.declared.tree.JsonPair.{JsonPair}
use Rattle.pack_config.specs.Splits.{has_name}

-- the set has exactly the names of these groups
pub record HasNamesOf (set : BTreeSet (List ℕ)) (pairs : List JsonPair) : Type 0 where
  pub has : (name : List ℕ) → contains (slice_cmp nat_cmp) set name ≡ list_any (has_name name) pairs
