-- A manifest that was fetched through the cache (this project).
use Rattle.std.specs.Prelude.{◌≡◌, ℕ, ◌<◌, Bool, List, [], length, bytes_eq, slice_index_or, Option, Some, None, Result, IfOk, IsTrue, is_some}
use Rattle.outside.specs.Logs.{AreReadsFor, Gains, is_manifest}
use Rattle.outside.specs.Tree.{Tree, bytes_at}
use Rattle.outside.specs.Views.{ReaderView}
use Rattle.outside.specs.declared.outside_end.OutsideEnd.{OutsideEnd}
use Rattle.pkg_manifest.specs.declared.fields.Manifest.{Manifest}
use Rattle.tree_listing.specs.Listing.{Listed, IsListingOf}
use Rattle.resolve_path.specs.Caches.{AreTrue, IsManifestAt}
use Rattle.resolve_path.specs.Manifests.{IsReading, Manifests, ManifestReading, manifests_of}
use Rattle.resolve_path.specs.Places.{Places, answer_among}
use Rattle.resolve_path.specs.Resolves.{Finds, KeepsManifests}
use Rattle.resolve_path.specs.declared.fetch.Fetched.{Fetched}
use Rattle.resolve_path.specs.declared.fetch.Fetched.TheVariants.{Missing, Kept, Fresh}
use Rattle.resolve_path.specs.declared.kept.KeptManifest.{KeptManifest}
use Rattle.resolve_path.specs.declared.resolution.Resolution.{Resolution}

-- kept of a path
abbrev pub is_at : List ℕ → KeptManifest → Bool
is_at path kept = bytes_eq kept.path path

-- what stands past the end
abbrev pub nothing : KeptManifest
nothing = record { path = []; answer = None }

-- a place lies in the cache
abbrev pub IsHeld : List KeptManifest → Fetched → Type 0
IsHeld kept Missing = Unit {0}
IsHeld kept (Kept place) = place < length kept
IsHeld kept (Fresh answer) = Unit {0}

-- what a folder has, by what was fetched
abbrev pub held_of : List KeptManifest → Fetched → Option (Option Manifest)
held_of kept Missing = None
held_of kept (Kept place) = Some (slice_index_or kept place nothing).answer
held_of kept (Fresh answer) = Some answer

-- a manifest is read, and no stray is made where the path is a file of the tree
pub record ReadsManifest (tree : Tree) (path : List ℕ) (before now : ReaderView) (result : Result (Option Manifest) OutsideEnd) : Type 0 where
  pub log : Gains before now (AreReadsFor is_manifest)
  pub listed : now.listed ≡ before.listed
  pub no_stray : IsTrue (is_some (bytes_at tree path)) → now.strays ≡ before.strays
  pub is : IfOk result (λ answer. IsManifestAt tree path answer)

-- what a folder has is fetched
pub record FetchesFrom (tree : Tree) (listing : Listed) (folder : List ℕ) (old new : List KeptManifest) (before now : ReaderView) (result : Result Fetched OutsideEnd) : Type 0 where
  pub keeps : KeepsManifests tree listing old new before now
  pub is : IsListingOf tree listing → AreTrue tree old → (reading : ManifestReading) → IsReading reading → IfOk result (λ fetched. held_of new fetched ≡ manifests_of reading tree folder)

-- a part of a resolution finds the first of some places that is a file, or their verdict
pub record FindsIn (tree : Tree) (listing : Listed) (old new : List KeptManifest) (before now : ReaderView) (result : Result Resolution OutsideEnd) (places : Manifests → Places) : Type 0 where
  pub keeps : KeepsManifests tree listing old new before now
  pub is : Finds tree listing old result (λ reading. answer_among listing.files (places (manifests_of reading tree)))
