-- What workers begin with (this project).
use Rattle.std.specs.Prelude.{◌≡◌, ℕ, ◌<◌, List, flat_map, length, Result, IfOk}
use Rattle.std.specs.List.{AllByRecursion, AllZip}
use Rattle.claim_board.specs.Claims.{AreNew}
use Rattle.graph_types.specs.declared.config.Config.{Config}
use Rattle.module_build.specs.Readings.{AreReadings, Readings}
use Rattle.outside.specs.Tree.{Tree}
use Rattle.outside.specs.Views.{ReaderView}
use Rattle.outside.specs.declared.outside_end.OutsideEnd.{OutsideEnd}
use Rattle.resolve_path.specs.Caches.{AreTrue}
use Rattle.resolve_path.specs.declared.kept.KeptManifest.{KeptManifest}
use Rattle.make_rounds.specs.Entries.{root_naming}
use Rattle.make_rounds.specs.declared.entry_files.Entries.{Entries}
use Rattle.make_rounds.specs.declared.finding.Start.{Start}
use Rattle.make_rounds.specs.inner.Answered.{AreEntryFiles}
use Rattle.make_rounds.specs.inner.Growing.{HasReadNone}

-- no reader has read a module
abbrev pub AreReadNone : {R : Type 0} → (R → ReaderView) → List R → List R → Type 0
AreReadNone view readers readers' = AllZip (λ old new. HasReadNone (view old) (view new)) readers readers'

-- what finding the entries' files answers and reads on a tree
pub record FindsFirst {R : Type 0} (view : R → ReaderView) (tree : Tree) (config : Config) (path : List ℕ) (readers readers' : List R) (caches caches' : List (List KeptManifest)) (result : Result Entries OutsideEnd) : Type 0 where
  pub read : AreReadNone view readers readers'
  pub trusted : AllByRecursion (AreTrue tree) caches → AllByRecursion (AreTrue tree) caches'
  pub found : AllByRecursion (AreTrue tree) caches → (readings : Readings) → AreReadings readings → IfOk result (AreEntryFiles (root_naming readings tree config) config path)

-- so many workers may begin, over so many files and for so many entries
pub record AreReady (files workers entries : ℕ) (start : Start) : Type 0 where
  pub as_many : length start.entries.files.items ≡ entries
  pub first_is : start.first.items ≡ flat_map (λ entry. entry) start.entries.files.items
  pub within : AllByRecursion (λ file. file.0 < files) start.first.items
  pub new : AreNew files workers start.board start.seats.items
  pub as_many_caches : length start.caches.items ≡ workers

-- what they begin with on a tree
pub record StartsOn (tree : Tree) (config : Config) (path : List ℕ) (start : Start) : Type 0 where
  pub trusted : AllByRecursion (AreTrue tree) start.caches.items
  pub found : (readings : Readings) → AreReadings readings → AreEntryFiles (root_naming readings tree config) config path start.entries

pub record Starts {R : Type 0} (view : R → ReaderView) (tree : Tree) (config : Config) (path : List ℕ) (readers readers' : List R) (result : Result Start OutsideEnd) : Type 0 where
  pub read : AreReadNone view readers readers'
  pub on : IfOk result (StartsOn tree config path)
