-- The names that were seen so far, as a set of them (this project).
use Rattle.std.specs.Prelude.{◌≡◌, ℕ, List}
use Rattle.std.specs.BTreeSet.{BTreeSet, contains}
use Rattle.std.specs.Cmp.Lexicographic.{slice_cmp}
use Rattle.std.specs.List.{list_any}
use Rattle.std.specs.Ordering.{nat_cmp}
use Rattle.std.specs.Str.{bytes_eq}

-- the set has exactly these names
pub record HasNames (set : BTreeSet (List ℕ)) (names : List (List ℕ)) : Type 0 where
  pub has : (name : List ℕ) → contains (slice_cmp nat_cmp) set name ≡ list_any (bytes_eq name) names
