-- The files of entries with the answers to their requests, and what they come to (this project).
use Rattle.std.specs.Prelude.{◌≡◌, ℕ, List, map, filter_map, Option, Result, Vec, IfOk}
use Rattle.std.specs.declared.alloc.Global.{Global}
use Rattle.fault_place.specs.declared.fault.Fault.{Fault}
use Rattle.pack_util.specs.declared.number.FileId.{FileId}
use Rattle.graph_types.specs.declared.config.Config.{Config}
use Rattle.graph_types.specs.declared.entry.EntryFile.{EntryFile}
use Rattle.graph_types.specs.declared.entry.EntrySpec.{EntrySpec}
use Rattle.module_build.specs.Answers.{file_named, refusal}
use Rattle.module_build.specs.Readings.{AreReadings, Readings}
use Rattle.module_build.specs.Record.{Naming}
use Rattle.outside.specs.Tree.{Tree}
use Rattle.outside.specs.declared.outside_end.OutsideEnd.{OutsideEnd}
use Rattle.resolve_path.specs.Caches.{AreTrue}
use Rattle.resolve_path.specs.declared.kept.KeptManifest.{KeptManifest}
use Rattle.tree_listing.specs.Listing.{IsListingOf, Listed}
use Rattle.make_rounds.specs.Entries.{entry_answer, faults_by, files_by, root_naming, spot_place}
use Rattle.make_rounds.specs.declared.entry_answer.EntryAnswer.{EntryAnswer}
use Rattle.make_rounds.specs.declared.entry_files.Entries.{Entries}

abbrev pub answered_by : Naming → EntryFile → EntryAnswer
answered_by naming file = record { file = file; answer = entry_answer naming file }

abbrev pub answered_entry : Naming → EntrySpec → List EntryAnswer
answered_entry naming entry = map (answered_by naming) entry.files

-- what answers name, and what is told of those that name none
abbrev pub named_files : List EntryAnswer → List FileId
named_files answers = filter_map (λ one. file_named one.answer) answers

abbrev pub answer_fault : List ℕ → EntryAnswer → Option Fault
answer_fault path one = refusal (spot_place path one.file.at) one.file.request one.answer

abbrev pub answer_faults : List ℕ → List EntryAnswer → List Fault
answer_faults path answers = filter_map (answer_fault path) answers

-- the numbers of files
abbrev pub numbers_of : List FileId → List ℕ
numbers_of files = map (λ file. file.0) files

-- by the tree's listing and a cache that is true of the tree, an Ok has the answer to each request
abbrev pub FindsEntry : Tree → Listed → Config → List KeptManifest → List EntryFile → Result (Vec EntryAnswer Global) OutsideEnd → Type 0
FindsEntry tree listing config old files result =
    IsListingOf tree listing → AreTrue tree old → (readings : Readings) → AreReadings readings
    → IfOk result (λ answers. answers.items ≡ map (answered_by (root_naming readings tree config)) files)

abbrev pub FindsAnswers : Tree → Listed → Config → List KeptManifest → Result (Vec (List EntryAnswer) Global) OutsideEnd → Type 0
FindsAnswers tree listing config old result =
    IsListingOf tree listing → AreTrue tree old → (readings : Readings) → AreReadings readings
    → IfOk result (λ answers. answers.items ≡ map (answered_entry (root_naming readings tree config)) config.entries)

-- the files and the faults of the entries of a configuration at a path
pub record AreEntryFiles (naming : Naming) (config : Config) (path : List ℕ) (found : Entries) : Type 0 where
  pub files_are : map numbers_of found.files.items ≡ files_by naming config
  pub faults_are : found.faults.items ≡ faults_by naming config path

abbrev pub FindsEntries : Tree → Listed → Config → List ℕ → List KeptManifest → Result Entries OutsideEnd → Type 0
FindsEntries tree listing config path old result =
    IsListingOf tree listing → AreTrue tree old → (readings : Readings) → AreReadings readings
    → IfOk result (AreEntryFiles (root_naming readings tree config) config path)
