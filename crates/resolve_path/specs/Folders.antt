-- A path as a folder (webpack documentation, `resolve.mainFields` and `resolve.mainFiles`; Node.js, "Folders as modules").
use Rattle.std.specs.Prelude.{ℕ, nat_eq, List, [], ◌∷◌, ◌++◌, codes, bytes_eq, Option, Some, None, option_map, Result, Ok, Err, if◌then◌else◌}
use Rattle.std.specs.List.{find, flat_map, ends_with}
use Rattle.graph_types.specs.declared.config.Config.{Config}
use Rattle.path_text.specs.Path.{join_of}
use Rattle.path_text.specs.declared.path_end.PathEnd.{PathEnd}
use Rattle.pkg_manifest.specs.declared.fields.Manifest.{Manifest}
use Rattle.resolve_path.specs.declared.resolution.Resolution.TheVariants.{Unresolved, BadManifest}
use Rattle.resolve_path.specs.Files.{file_paths, main_file_paths}
use Rattle.resolve_path.specs.Manifests.{Manifests, manifest_path}
use Rattle.resolve_path.specs.Places.{Places, before, only}

-- the text of a main field, where the manifest has it as one
abbrev pub main_at : Manifest → List ℕ → Option (List ℕ)
main_at manifest field = option_map (λ main. main.1) (find (λ main. bytes_eq main.0 field) manifest.mains)

-- what a main field names: a file, or a folder by its main files
abbrev pub named_paths : Config → Result (List ℕ) PathEnd → List (List ℕ)
named_paths config (Ok path) = file_paths config path ++ main_file_paths config path
named_paths config (Err end) = []

-- a main field that isn't there, is the empty text, or leads to no path is passed over
abbrev pub main_paths : Config → List ℕ → Option (List ℕ) → List (List ℕ)
main_paths config folder None = []
main_paths config folder (Some []) = []
main_paths config folder (Some (byte ∷ bytes)) = named_paths config (join_of folder (byte ∷ bytes))

-- the main fields in order, then the main files; a bad manifest ends the look-up
abbrev pub folder_places : Config → List ℕ → Option (Option Manifest) → Places
folder_places config folder None = record { paths = main_file_paths config folder; verdict = Unresolved }
folder_places config folder (Some None) = only (BadManifest (manifest_path folder))
folder_places config folder (Some (Some manifest)) =
    record { paths = flat_map (λ field. main_paths config folder (main_at manifest field)) config.main_fields ++ main_file_paths config folder; verdict = Unresolved }

-- a text that ends with a slash names a folder alone
abbrev pub paths_as_file : Config → List ℕ → List ℕ → List (List ℕ)
paths_as_file config text path = if ends_with nat_eq text (codes "/") then [] else file_paths config path

abbrev pub places_at : Manifests → Config → List ℕ → Result (List ℕ) PathEnd → Places
places_at manifests config text (Ok path) = before (paths_as_file config text path) (folder_places config path (manifests path))
places_at manifests config text (Err end) = only Unresolved

-- what a text names from a folder: a file, else a folder
abbrev pub places_from : Manifests → Config → List ℕ → List ℕ → Places
places_from manifests config folder text = places_at manifests config text (join_of folder text)
