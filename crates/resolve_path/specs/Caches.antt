-- What a cache of manifests keeps (this project).
use Rattle.std.specs.Prelude.{◌≡◌, ℕ, ◌≤◌, List, map, length, Option, Some, nat_eq}
use Rattle.std.specs.Cmp.Lexicographic.{pointwise}
use Rattle.std.specs.List.{AllByRecursion, IsDistinct}
use Rattle.outside.specs.Tree.{Tree, bytes_at}
use Rattle.pkg_manifest.specs.Manifest.{IsManifestOf}
use Rattle.pkg_manifest.specs.declared.fields.Manifest.{Manifest}
use Rattle.resolve_path.specs.declared.kept.KeptManifest.{KeptManifest}

-- at most 32 manifests, no two of one path
pub record IsCache (kept : List KeptManifest) : Type 0 where
  pub few : length kept ≤ 32
  pub once : IsDistinct (pointwise nat_eq) (map (λ one. one.path) kept)

-- the file at a path is this manifest, or is none
abbrev pub IsManifestAt : Tree → List ℕ → Option Manifest → Type 0
IsManifestAt tree path answer = (bytes : List ℕ) × (bytes_at tree path ≡ Some bytes) × IsManifestOf bytes answer

-- what is kept is what the tree has
abbrev pub AreTrue : Tree → List KeptManifest → Type 0
AreTrue tree kept = AllByRecursion (λ one. IsManifestAt tree one.path one.answer) kept
