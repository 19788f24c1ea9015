-- Manifests (Node.js, "package.json and file extensions" and "Package entry points"; webpack, `resolve.mainFields`;
-- this project: the size, one answer for each bad manifest, a null `exports` as none).
use Rattle.std.specs.Prelude.{◌≡◌, ℕ, ◌<◌, ◌≤◌, ◌⊎◌, Bool, true, false, if◌then◌else◌, List, length, find, codes, Option, None, Some, option_and_then, Result, Ok, Err}
use Rattle.std.specs.Option.{option_map}
use Rattle.std.specs.List.{filter_map}
use Rattle.std.specs.Str.{bytes_eq}
use Rattle.json_order.specs.declared.tree.JsonTree.{JsonTree}
use Rattle.json_order.specs.declared.tree.JsonPair.{JsonPair}
use Rattle.json_order.specs.declared.tree.JsonNode.{JsonNode, out-JsonNode}
use Rattle.json_order.specs.declared.tree.JsonNode.TheOpen.{JsonNode-F}
use Rattle.json_order.specs.declared.tree.JsonNode.TheVariants as node
use Rattle.json_order.specs.Answer.{IsAnswer}
use Rattle.pkg_manifest.specs.declared.fields.Manifest.{Manifest}
use Rattle.pkg_manifest.specs.declared.manifest_end.ManifestEnd.{ManifestEnd}
use Rattle.pkg_manifest.specs.declared.manifest_end.ManifestEnd.TheVariants.{BadManifest, NoMemory}

-- how many bytes a manifest may have
abbrev pub size_limit : ℕ
size_limit = 1_048_576

-- the text of a string
abbrev pub string_of : JsonNode → Option (List ℕ)
string_of (node.Str text) = Some text
string_of _ = None

-- a member with a string, which may be named as a main field
abbrev pub main_of : JsonPair → Option (List ℕ × List ℕ)
main_of member = option_map (λ text. (member.key, text)) (string_of member.value.node)

-- the members with a string, in their order
abbrev pub mains_of : List JsonPair → List (List ℕ × List ℕ)
mains_of members = filter_map main_of members

abbrev pub is_null : JsonNode → Bool
is_null node.Null = true
is_null _ = false

-- a tree that isn't null: a null counts as no value
abbrev pub unless_null : JsonTree → Option JsonTree
unless_null tree = if is_null tree.node then None else Some tree

abbrev pub is_exports : JsonPair → Bool
is_exports member = bytes_eq member.key (codes "exports")

-- the value at the key `exports`, which one member of an object has at most, unless it is null
abbrev pub exports_of : List JsonPair → Option JsonTree
exports_of members = option_and_then (λ member. unless_null member.value) (find is_exports members)

-- the manifest that an object with these members is
abbrev pub manifest_of : List JsonPair → Manifest
manifest_of members = record { mains = mains_of members; exports = exports_of members }

-- the members of an object
abbrev pub members_of : {N P T : Type 0} → JsonNode-F N P T → Option (List P)
members_of (JsonNode-F.Object members) = Some members
members_of _ = None

-- the manifest that a JSON value is: only an object is one
abbrev pub manifest_in : JsonNode → Option Manifest
manifest_in value = option_map manifest_of (members_of (out-JsonNode value))

-- the text is too long, isn't JSON, or isn't an object
abbrev pub IsBad : List ℕ → Type 0
IsBad text = (size_limit < length text)
    ⊎ ((tree : JsonTree) → ¬ (IsAnswer text (Ok tree)))
    ⊎ ((tree : JsonTree) × IsAnswer text (Ok tree) × (manifest_in tree.node ≡ None))

-- the manifest that a text is, or that it is none
abbrev pub IsManifestOf : List ℕ → Option Manifest → Type 0
IsManifestOf text (Some manifest) = (length text ≤ size_limit) × ((tree : JsonTree) × IsAnswer text (Ok tree) × (manifest_in tree.node ≡ Some manifest))
IsManifestOf text None = IsBad text

-- the result of a call is the answer, unless memory ran out
abbrev pub ManifestAnswersBy : (Option Manifest → Type 0) → Result Manifest ManifestEnd → Type 0
ManifestAnswersBy Is (Ok manifest) = Is (Some manifest)
ManifestAnswersBy Is (Err BadManifest) = Is None
ManifestAnswersBy Is (Err NoMemory) = Unit {0}
