-- The manifests of a tree (Node.js, "package.json and file extensions"; this project: a manifest that is bad is told from none).
use Rattle.std.specs.Prelude.{ℕ, List, Option, option_map, codes}
use Rattle.outside.specs.Tree.{Tree, bytes_at}
use Rattle.path_text.specs.Child.{child_of}
use Rattle.pkg_manifest.specs.Manifest.{IsManifestOf}
use Rattle.pkg_manifest.specs.declared.fields.Manifest.{Manifest}

-- where a folder has its manifest
abbrev pub manifest_path : List ℕ → List ℕ
manifest_path folder = child_of folder (codes "package.json")

-- which manifest each text is, or that it is none
abbrev pub ManifestReading : Type 0
ManifestReading = List ℕ → Option Manifest

abbrev pub IsReading : ManifestReading → Type 0
IsReading reading = (text : List ℕ) → IsManifestOf text (reading text)

-- what each folder has: no file `package.json`, or one that is a manifest or is none
abbrev pub Manifests : Type 0
Manifests = List ℕ → Option (Option Manifest)

-- what the folders of a tree have
abbrev pub manifests_of : ManifestReading → Tree → Manifests
manifests_of reading tree folder = option_map reading (bytes_at tree (manifest_path folder))
