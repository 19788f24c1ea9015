-- Which file a request names (webpack documentation, "Module Resolution"; Node.js, "Packages").
use Rattle.std.specs.Prelude.{ℕ, Bool, List, if◌then◌else◌}
use Rattle.graph_types.specs.declared.config.Config.{Config}
use Rattle.outside.specs.Tree.{Tree, is_folder}
use Rattle.tree_listing.specs.Listing.{lengths_of}
use Rattle.resolve_path.specs.declared.request_kind.RequestKind.{RequestKind}
use Rattle.resolve_path.specs.declared.resolution.Resolution.{Resolution}
use Rattle.resolve_path.specs.Folders.{places_from}
use Rattle.resolve_path.specs.Manifests.{Manifests, ManifestReading, manifests_of}
use Rattle.resolve_path.specs.Packages.{bare_places}
use Rattle.resolve_path.specs.Places.{Places, answer_among}
use Rattle.resolve_path.specs.Requests.{Asked, asked_of, bare_of, is_relative}

-- a relative request names a path, and any other a package
abbrev pub asked_places : Manifests → (List ℕ → Bool) → Config → RequestKind → Asked → Places
asked_places manifests is_folder config kind asked =
    if is_relative asked.request then places_from manifests config asked.base asked.request
    else bare_places manifests is_folder config kind asked.base (bare_of asked.request)

-- the paths that a request in a folder of a tree may name, in order, and the verdict where none of them is a file
abbrev pub places : ManifestReading → Tree → Config → List ℕ → List ℕ → RequestKind → Places
places reading tree config folder request kind =
    asked_places (manifests_of reading tree) (is_folder tree) config kind (asked_of config.alias folder request)

-- the first of them that is a file, else the verdict
abbrev pub resolution_of : ManifestReading → Tree → Config → List ℕ → List ℕ → RequestKind → Resolution
resolution_of reading tree config folder request kind = answer_among (lengths_of tree) (places reading tree config folder request kind)
