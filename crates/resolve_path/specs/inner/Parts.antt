-- Parts of a look-up (this project).
use Rattle.std.specs.Prelude.{◌≡◌, ℕ, Bool, bytes_eq, not, List, Option, Some, None, map, option_map, MatchOption}
use Rattle.std.specs.List.{find, filter, list_any}
use Rattle.std.specs.Result.{result_ok}
use Rattle.graph_types.specs.declared.config.Config.{Config}
use Rattle.json_order.specs.declared.tree.JsonTree.{JsonTree}
use Rattle.path_text.specs.Path.{join_of}
use Rattle.pkg_manifest.specs.declared.fields.Manifest.{Manifest}
use Rattle.resolve_path.specs.declared.request_kind.RequestKind.{RequestKind}
use Rattle.resolve_path.specs.declared.resolution.Resolution.{Resolution}
use Rattle.resolve_path.specs.Folders.{places_from}
use Rattle.resolve_path.specs.Manifests.{Manifests}
use Rattle.resolve_path.specs.Places.{answer_among}
use Rattle.resolve_path.specs.Packages.{holds_packages, package_in, package_places}
use Rattle.resolve_path.specs.Requests.{is_aliased, replaced}

-- the path that a text names from a folder, where it names one
abbrev pub path_named : List ℕ → List ℕ → Option (List ℕ)
path_named folder text = result_ok (join_of folder text)

-- what a request becomes by the first alias that matches, where one does
abbrev pub replaced_by : List (List ℕ × List ℕ) → List ℕ → Option (List ℕ)
replaced_by aliases request = option_map (replaced request) (find (λ alias. is_aliased request alias.0) aliases)

-- the path is one of the folders
abbrev pub is_listed : List (List ℕ) → List ℕ → Bool
is_listed folders path = list_any (λ folder. bytes_eq folder path) folders

-- the first folder of a package that is asked for in some folders
abbrev pub package_among : List (List ℕ) → List ℕ → List (List ℕ) → Option (List ℕ)
package_among listed name folders = find (is_listed listed) (map (package_in name) (filter (λ folder. not (holds_packages folder)) folders))

-- the `exports` of a manifest, where there is a manifest and it has them
abbrev pub exports_held : Option (Option Manifest) → Option JsonTree
exports_held None = None
exports_held (Some None) = None
exports_held (Some (Some manifest)) = manifest.exports

-- the answer for a package is decided, or the rest is looked up in its folder
abbrev pub Decides : List (List ℕ × ℕ) → Manifests → Config → RequestKind → List ℕ → List ℕ → Option Resolution → Type 0
Decides files manifests config kind folder rest decided =
    MatchOption decided (package_places manifests config kind folder rest ≡ places_from manifests config folder rest)
    (λ answer. answer ≡ answer_among files (package_places manifests config kind folder rest))
