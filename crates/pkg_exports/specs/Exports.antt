-- The target of a subpath (Node.js, "Package entry points" and "Subpath patterns").
use Rattle.std.specs.Prelude.{ℕ, Bool, not, ◌&&◌, nat_eq, List, Option, Some, None, Result, Ok, Err, bytes_eq, codes, if◌then◌else◌}
use Rattle.std.specs.List.{filter, find, list_any, list_all, ends_with}
use Rattle.json_order.specs.declared.tree.JsonTree.{JsonTree}
use Rattle.json_order.specs.declared.tree.JsonPair.{JsonPair}
use Rattle.json_order.specs.declared.tree.JsonNode.{JsonNode}
use Rattle.json_order.specs.declared.tree.JsonNode.TheOpen as open_node
use Rattle.json_order.specs.declared.tree.JsonNode.TheOpen.{JsonNode-F}
use Rattle.json_order.specs.declared.tree.JsonNode.TheViews.{out-JsonNode}
use Rattle.pkg_exports.specs.declared.exports_end.ExportsEnd.{ExportsEnd}
use Rattle.pkg_exports.specs.declared.exports_end.ExportsEnd.TheVariants as end
use Rattle.pkg_exports.specs.declared.outcome.Outcome.{Outcome}
use Rattle.pkg_exports.specs.declared.outcome.Outcome.TheVariants.{Undefined, Null, Target, BadTarget, BadKey}
use Rattle.pkg_exports.specs.Keys.{begins_with_dot, is_star, is_match, matched_part, outranks}
use Rattle.pkg_exports.specs.Segments.{has_refused_segment}
use Rattle.pkg_exports.specs.Targets.{outcome_of}

-- undefined and null are not exported
abbrev pub answer_of : Outcome → Result (Option (List ℕ)) ExportsEnd
answer_of Undefined = Ok None
answer_of Null = Ok None
answer_of (Target text) = Ok (Some text)
answer_of BadTarget = Err end.BadTarget
answer_of BadKey = Err end.BadKey

-- a value that is the target of `.` alone
abbrev pub root_target : JsonTree → List ℕ → List (List ℕ) → Result (Option (List ℕ)) ExportsEnd
root_target tree subpath conditions =
    if bytes_eq subpath (codes ".") then answer_of (outcome_of (codes "*") conditions tree) else Ok None

-- a member of a map whose key is the subpath itself
abbrev pub is_exact : List ℕ → JsonPair → Bool
is_exact subpath pair = not (list_any is_star pair.key) && bytes_eq pair.key subpath

abbrev pub matches_of : List ℕ → List JsonPair → List JsonPair
matches_of subpath pairs = filter (λ pair. is_match subpath pair.key) pairs

-- the first of some members whose key none of them outranks
abbrev pub greatest : List JsonPair → Option JsonPair
greatest pairs = find (λ pair. not (list_any (λ other. outranks other.key pair.key) pairs)) pairs

-- what a `*` stands for may have a refused segment: then the subpath isn't exported (this project)
abbrev pub pattern_outcome : List ℕ → List (List ℕ) → Option JsonPair → Outcome
pattern_outcome subpath conditions None = Undefined
pattern_outcome subpath conditions (Some pair) =
    if has_refused_segment (matched_part subpath pair.key) then Undefined
    else outcome_of (matched_part subpath pair.key) conditions pair.value

-- a key that is the subpath decides, else the greatest that matches
abbrev pub key_outcome : List ℕ → List (List ℕ) → List JsonPair → Option JsonPair → Outcome
key_outcome subpath conditions pairs (Some pair) = outcome_of (codes "*") conditions pair.value
key_outcome subpath conditions pairs None = pattern_outcome subpath conditions (greatest (matches_of subpath pairs))

-- a subpath that ends with a slash isn't exported (this project)
abbrev pub map_outcome : List ℕ → List (List ℕ) → List JsonPair → Outcome
map_outcome subpath conditions pairs =
    if ends_with nat_eq subpath (codes "/") then Undefined
    else key_outcome subpath conditions pairs (find (is_exact subpath) pairs)

-- an object is a map where each key begins with `.`, and mixed where some key does and some doesn't
abbrev pub object_target : JsonTree → List JsonPair → List ℕ → List (List ℕ) → Result (Option (List ℕ)) ExportsEnd
object_target tree pairs subpath conditions =
    if not (list_any (λ pair. begins_with_dot pair.key) pairs) then root_target tree subpath conditions
    else (if list_all (λ pair. begins_with_dot pair.key) pairs then answer_of (map_outcome subpath conditions pairs)
    else Err end.Mixed)

abbrev pub node_target : JsonTree → JsonNode-F JsonNode JsonPair JsonTree → List ℕ → List (List ℕ) → Result (Option (List ℕ)) ExportsEnd
node_target tree open_node.Null subpath conditions = Ok None
node_target tree (open_node.Bool value) subpath conditions = Ok None
node_target tree (open_node.Number text) subpath conditions = Ok None
node_target tree (open_node.Str text) subpath conditions = root_target tree subpath conditions
node_target tree (open_node.List members) subpath conditions = root_target tree subpath conditions
node_target tree (open_node.Object pairs) subpath conditions = object_target tree pairs subpath conditions

-- the target of a subpath, None where it isn't exported, or why `exports` gives none
abbrev pub target_of : JsonTree → List ℕ → List (List ℕ) → Result (Option (List ℕ)) ExportsEnd
target_of tree = node_target tree (out-JsonNode tree.node)
