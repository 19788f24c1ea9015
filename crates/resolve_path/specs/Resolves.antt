-- What a resolution does to its reader and its cache where the tree is told, and what it answers (this project).
use Rattle.std.specs.Prelude.{◌≡◌, List, Result, IfOk}
use Rattle.outside.specs.Logs.{AreReadsFor, Gains, is_manifest}
use Rattle.outside.specs.Tree.{Tree}
use Rattle.outside.specs.Views.{ReaderView}
use Rattle.outside.specs.declared.outside_end.OutsideEnd.{OutsideEnd}
use Rattle.tree_listing.specs.Listing.{Listed, IsListingOf}
use Rattle.resolve_path.specs.declared.kept.KeptManifest.{KeptManifest}
use Rattle.resolve_path.specs.declared.resolution.Resolution.{Resolution}
use Rattle.resolve_path.specs.Caches.{AreTrue}
use Rattle.resolve_path.specs.Manifests.{IsReading, ManifestReading}

-- Nothing is read but manifests, a cache that is true of the tree stays so, and with the tree's listing no stray is made.
pub record KeepsManifests (tree : Tree) (listing : Listed) (old new : List KeptManifest) (before now : ReaderView) : Type 0 where
  pub log : Gains before now (AreReadsFor is_manifest)
  pub listed : now.listed ≡ before.listed
  pub no_stray : IsListingOf tree listing → now.strays ≡ before.strays
  pub cache : AreTrue tree old → AreTrue tree new

-- by the tree's listing and a cache that is true of the tree, an Ok is the resolution, whichever way texts are told to be manifests
abbrev pub Finds : Tree → Listed → List KeptManifest → Result Resolution OutsideEnd → (ManifestReading → Resolution) → Type 0
Finds tree listing old result resolution =
    IsListingOf tree listing → AreTrue tree old → (reading : ManifestReading) → IsReading reading → IfOk result (λ answer. answer ≡ resolution reading)
