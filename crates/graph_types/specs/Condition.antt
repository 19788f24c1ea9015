-- Conditions on a module's path (this project, in place of the regular expressions of webpack's `cacheGroups.test`). A text
-- is the list of its bytes.
use Rattle.std.specs.Prelude.{ℕ, ◌-◌, Bool, not, ◌||◌, ◌==◌, nat_eq, List, [], ◌∷◌, length, take, bytes_eq}
use Rattle.std.specs.List.{starts_with, ends_with, list_all, list_any, slice_split}
use Rattle.graph_types.specs.declared.condition.Condition.{Condition}
use Rattle.graph_types.specs.declared.condition.Condition.TheOpen as open_condition
use Rattle.graph_types.specs.declared.condition.Condition.TheOpen.{Condition-F}
use Rattle.graph_types.specs.declared.condition.Condition.TheFolds.{fold-Condition}

-- the part stands somewhere in the path
abbrev pub has_part : List ℕ → List ℕ → Bool
has_part part [] = starts_with nat_eq [] part
has_part part (byte ∷ bytes) = starts_with nat_eq (byte ∷ bytes) part || has_part part bytes

abbrev pub is_separator : ℕ → Bool
is_separator byte = byte == 47

-- the segments before the last
abbrev pub folders_of : List ℕ → List (List ℕ)
folders_of path = take (length (slice_split is_separator path) - 1) (slice_split is_separator path)

abbrev pub has_folder : List ℕ → List ℕ → Bool
has_folder name path = list_any (λ folder. bytes_eq folder name) (folders_of path)

-- one level, with what holds of each condition inside in its place
abbrev pub holds_by : List ℕ → Condition-F Bool → Bool
holds_by path (open_condition.Prefix text) = starts_with nat_eq path text
holds_by path (open_condition.Contains text) = has_part text path
holds_by path (open_condition.EndsWith text) = ends_with nat_eq path text
holds_by path (open_condition.InDir text) = has_folder text path
holds_by path (open_condition.And members) = list_all (λ member. member) members
holds_by path (open_condition.Or members) = list_any (λ member. member) members
holds_by path (open_condition.Not member) = not member

-- whether a path meets a condition
abbrev pub holds : List ℕ → Condition → Bool
holds path = fold-Condition Bool (holds_by path)
