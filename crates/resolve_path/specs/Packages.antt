-- Packages (Node.js, "Loading from node_modules folders" and "Package entry points"; webpack documentation, `resolve.modules`,
-- `resolve.exportsFields` and `resolve.conditionNames`).
use Rattle.std.specs.Prelude.{ℕ, zero, suc, Bool, not, ◌||◌, nat_eq, List, [], ◌∷◌, ◌++◌, map, length, codes, bytes_eq, Option, Some, None, Result, Ok, Err}
use Rattle.std.specs.List.{filter, find, ends_with}
use Rattle.graph_types.specs.declared.config.Config.{Config}
use Rattle.json_order.specs.declared.tree.JsonTree.{JsonTree}
use Rattle.path_text.specs.Child.{child_of}
use Rattle.path_text.specs.Path.{folder_segments, join_of, parent_of}
use Rattle.path_text.specs.declared.path_end.PathEnd.{PathEnd}
use Rattle.pkg_exports.specs.Exports.{target_of}
use Rattle.pkg_exports.specs.declared.exports_end.ExportsEnd.{ExportsEnd}
use Rattle.pkg_manifest.specs.declared.fields.Manifest.{Manifest}
use Rattle.resolve_path.specs.declared.request_kind.RequestKind.{RequestKind}
use Rattle.resolve_path.specs.declared.request_kind.RequestKind.TheVariants.{Import, Require}
use Rattle.resolve_path.specs.declared.resolution.Resolution.TheVariants.{Unresolved, NotExported, BadManifest, BadTarget}
use Rattle.resolve_path.specs.Folders.{folder_places, places_from}
use Rattle.resolve_path.specs.Manifests.{Manifests, manifest_path}
use Rattle.resolve_path.specs.Places.{Places, only}
use Rattle.resolve_path.specs.declared.request.BareRequest.{BareRequest}

-- a folder, and so many above it, nearest first
abbrev pub folders_up : ℕ → List ℕ → List (List ℕ)
folders_up zero folder = folder ∷ []
folders_up (suc count) folder = folder ∷ folders_up count (parent_of folder)

-- a folder and all above it up to the root, which is as many steps up as the folder has segments
abbrev pub folders_from : List ℕ → List (List ℕ)
folders_from folder = folders_up (length (folder_segments folder)) folder

-- the last segment is `node_modules`
abbrev pub holds_packages : List ℕ → Bool
holds_packages folder = bytes_eq folder (codes "node_modules") || ends_with nat_eq folder (codes "/node_modules")

-- where a package may stand that is asked for in a folder
abbrev pub package_in : List ℕ → List ℕ → List ℕ
package_in name folder = child_of folder (codes "node_modules/" ++ name)

abbrev pub package_paths : List ℕ → List ℕ → List (List ℕ)
package_paths base name = map (package_in name) (filter (λ folder. not (holds_packages folder)) (folders_from base))

-- the condition that tells how a package is asked for
abbrev pub condition_of : RequestKind → List ℕ
condition_of Import = codes "import"
condition_of Require = codes "require"

abbrev pub conditions_of : Config → RequestKind → List (List ℕ)
conditions_of config kind = config.conditions ++ condition_of kind ∷ []

-- a subpath as `exports` names it
abbrev pub subpath_of : List ℕ → List ℕ
subpath_of [] = codes "."
subpath_of (byte ∷ bytes) = codes "./" ++ byte ∷ bytes

abbrev pub target_path : Result (List ℕ) PathEnd → List (List ℕ)
target_path (Ok path) = path ∷ []
target_path (Err end) = []

-- only the target is tried, without extensions and main files
abbrev pub target_places : List ℕ → Result (Option (List ℕ)) ExportsEnd → Places
target_places folder (Ok (Some target)) = record { paths = target_path (join_of folder target); verdict = Unresolved }
target_places folder (Ok None) = only NotExported
target_places folder (Err end) = only (BadTarget (manifest_path folder))

-- the package itself is a folder, and a rest is looked up from there
abbrev pub rest_places : Manifests → Config → List ℕ → List ℕ → Places
rest_places manifests config folder [] = folder_places config folder (manifests folder)
rest_places manifests config folder (byte ∷ bytes) = places_from manifests config folder (byte ∷ bytes)

abbrev pub exports_places : Manifests → Config → RequestKind → List ℕ → List ℕ → Option JsonTree → Places
exports_places manifests config kind folder rest (Some exports) =
    target_places folder (target_of exports (subpath_of rest) (conditions_of config kind))
exports_places manifests config kind folder rest None = rest_places manifests config folder rest

-- `exports` decides alone where the manifest has it; a bad manifest ends the look-up
abbrev pub manifest_places : Manifests → Config → RequestKind → List ℕ → List ℕ → Option (Option Manifest) → Places
manifest_places manifests config kind folder rest None = rest_places manifests config folder rest
manifest_places manifests config kind folder rest (Some None) = only (BadManifest (manifest_path folder))
manifest_places manifests config kind folder rest (Some (Some manifest)) =
    exports_places manifests config kind folder rest manifest.exports

abbrev pub package_places : Manifests → Config → RequestKind → List ℕ → List ℕ → Places
package_places manifests config kind folder rest = manifest_places manifests config kind folder rest (manifests folder)

abbrev pub found_places : Manifests → Config → RequestKind → List ℕ → Option (List ℕ) → Places
found_places manifests config kind rest None = only Unresolved
found_places manifests config kind rest (Some folder) = package_places manifests config kind folder rest

-- the nearest folder of the package decides, also where it lacks the file
abbrev pub bare_places : Manifests → (List ℕ → Bool) → Config → RequestKind → List ℕ → Option BareRequest → Places
bare_places manifests is_folder config kind base None = only Unresolved
bare_places manifests is_folder config kind base (Some bare) =
    found_places manifests config kind bare.rest (find is_folder (package_paths base bare.name))
