-- What a value of `exports` is the target of (Node.js, "Conditional exports"; the whole treatment of lists: this project).
-- Here `star` is what each `*` of a target becomes: the matched part, or `*` itself where there is none, so that it stays.
use Rattle.std.specs.Prelude.{ℕ, Bool, true, false, not, ◌&&◌, ◌||◌, ◌==◌, nat_eq, List, [], ◌∷◌, map, drop, reverse, codes, unwrap_or, if◌then◌else◌}
use Rattle.std.specs.List.{filter, find, flat_map, list_any, starts_with}
use Rattle.json_order.specs.declared.tree.JsonTree.{JsonTree}
use Rattle.json_order.specs.declared.tree.JsonNode.TheOpen as open_node
use Rattle.json_order.specs.declared.tree.JsonNode.TheOpen.{JsonNode-F}
use Rattle.json_order.specs.declared.tree.JsonNode.TheFolds.{fold-JsonTree}
use Rattle.pkg_exports.specs.declared.outcome.Outcome.{Outcome}
use Rattle.pkg_exports.specs.declared.outcome.Outcome.TheVariants.{Undefined, Null, Target, BadTarget, BadKey}
use Rattle.pkg_exports.specs.Keys.{is_star, is_array_index, is_met}
use Rattle.pkg_exports.specs.Segments.{has_refused_segment}

-- `%` or `\` (refused by this project)
abbrev pub is_forbidden : ℕ → Bool
is_forbidden byte = byte == 37 || byte == 92

-- a text that may be a target: it begins with `./`, and what follows has no forbidden byte and no refused segment
abbrev pub is_allowed : List ℕ → Bool
is_allowed text = starts_with nat_eq text (codes "./") && not (list_any is_forbidden text) && not (has_refused_segment (drop 2 text))

-- the text with `star` in the place of each `*`
abbrev pub filled : List ℕ → List ℕ → List ℕ
filled star text = flat_map (λ byte. if is_star byte then star else byte ∷ []) text

abbrev pub text_outcome : List ℕ → List ℕ → Outcome
text_outcome star text = if is_allowed text then Target (filled star text) else BadTarget

-- Of a list the first member whose target is a text or that has a bad key decides, else the last that is null or has a bad
-- target, else the list's target is null.
abbrev pub ends_list : Outcome → Bool
ends_list Undefined = false
ends_list Null = false
ends_list (Target text) = true
ends_list BadTarget = false
ends_list BadKey = true

abbrev pub is_null_or_bad : Outcome → Bool
is_null_or_bad Undefined = false
is_null_or_bad Null = true
is_null_or_bad (Target text) = false
is_null_or_bad BadTarget = true
is_null_or_bad BadKey = false

abbrev pub list_outcome : List Outcome → Outcome
list_outcome members = unwrap_or (find ends_list members) (unwrap_or (find is_null_or_bad (reverse members)) Null)

-- Of an object with no array index among its keys the first member decides whose key counts and whose target is defined.
abbrev pub is_defined : Outcome → Bool
is_defined Undefined = false
is_defined Null = true
is_defined (Target text) = true
is_defined BadTarget = true
is_defined BadKey = true

abbrev pub object_outcome : List (List ℕ) → List (List ℕ × Outcome) → Outcome
object_outcome conditions members =
    if list_any (λ member. is_array_index member.0) members then BadKey
    else unwrap_or (find is_defined (map (λ member. member.1) (filter (λ member. is_met conditions member.0) members))) Undefined

-- one level, with the outcome of each value inside in its place
abbrev pub node_outcome : List ℕ → List (List ℕ) → JsonNode-F Outcome (List ℕ × Outcome) Outcome → Outcome
node_outcome star conditions open_node.Null = Null
node_outcome star conditions (open_node.Bool value) = BadTarget
node_outcome star conditions (open_node.Number text) = BadTarget
node_outcome star conditions (open_node.Str text) = text_outcome star text
node_outcome star conditions (open_node.List members) = list_outcome members
node_outcome star conditions (open_node.Object members) = object_outcome conditions members

abbrev pub outcome_of : List ℕ → List (List ℕ) → JsonTree → Outcome
outcome_of star conditions =
    fold-JsonTree Outcome (List ℕ × Outcome) Outcome (node_outcome star conditions) (λ pair. (pair.key, pair.value)) (λ tree. tree.node)
