-- The modules of a graph (this project): a module's number is the place of its record, and records stand in the order of
-- their files.
use Rattle.std.specs.Prelude.{ℕ, ◌<◌, ◌^◌, ◌==◌, List, map, length, position, Option, option_map}
use Rattle.std.specs.List.{AllByRecursion}
use Rattle.std.specs.List.Sorted.{IsStrictlyIncreasing}
use Rattle.fault_place.specs.declared.fault.Fault.{Fault}
use Rattle.pack_util.specs.declared.number.FileId.{FileId}
use Rattle.pack_util.specs.declared.number.ModuleNo.{ModuleNo}
use Rattle.graph_types.specs.declared.record.ModRecord.{ModRecord}

-- the records in module order, the modules of each entry, and all faults of the make phase
pub record Graph : Type 0 where
  pub records : List ModRecord
  pub roots : List (List ModuleNo)
  pub faults : List Fault

abbrev pub file_id : ℕ → FileId
file_id number = record { 0 = number }

abbrev pub module_no : ℕ → ModuleNo
module_no number = record { 0 = number }

-- the numbers of the records' files
abbrev pub files_of : List ModRecord → List ℕ
files_of records = map (λ rec. rec.file.0) records

-- the file of each record is below that of the next
abbrev pub AreAscending : List ModRecord → Type 0
AreAscending records = IsStrictlyIncreasing (files_of records)

-- records in the order of their files, so few that each place is a module's number
pub record AreModules (records : List ModRecord) : Type 0 where
  pub ascending : AreAscending records
  pub few : length records < 2 ^ 32

-- numbers of modules
abbrev pub AreNumbersOf : List ModRecord → List ModuleNo → Type 0
AreNumbersOf records modules = AllByRecursion (λ number. number.0 < length records) modules

-- the module of a file, where the file is reached
abbrev pub module_of : List ModRecord → FileId → Option ModuleNo
module_of records file = option_map module_no (position (λ number. number == file.0) (files_of records))
