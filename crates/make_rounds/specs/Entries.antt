-- The files of entries, and what is told of their requests that name none (webpack, "Entry and Context"; this project).
use Rattle.std.specs.Prelude.{ℕ, List, [], map, flat_map, filter_map, Option, option_map}
use Rattle.fault_place.specs.declared.fault.Fault.{Fault}
use Rattle.pack_util.specs.declared.number.FileId.{FileId}
use Rattle.fault_place.specs.declared.place.Place.{Place}
use Rattle.fault_place.specs.declared.place.Spot.{Spot}
use Rattle.graph_types.specs.declared.config.Config.{Config}
use Rattle.graph_types.specs.declared.entry.EntryFile.{EntryFile}
use Rattle.graph_types.specs.declared.entry.EntrySpec.{EntrySpec}
use Rattle.module_build.specs.Answers.{file_named, refusal}
use Rattle.module_build.specs.Readings.{Readings}
use Rattle.module_build.specs.Record.{Naming, named_in}
use Rattle.outside.specs.Tree.{Tree}
use Rattle.resolve_path.specs.declared.request_kind.RequestKind.TheVariants.{Import}
use Rattle.resolve_path.specs.declared.resolution.Resolution.{Resolution}

-- an entry's request is asked for as an import of a module in the root
abbrev pub root_naming : Readings → Tree → Config → Naming
root_naming readings tree config = named_in readings tree config []

abbrev pub entry_answer : Naming → EntryFile → Resolution
entry_answer naming file = naming file.request Import

-- the place of a spot in the configuration at a path
abbrev pub spot_place : List ℕ → Spot → Place
spot_place path spot = record { path = path; offset = spot.offset; line = spot.line; column = spot.column }

-- the file that a request of an entry names
abbrev pub entry_file : Naming → EntryFile → Option FileId
entry_file naming file = file_named (entry_answer naming file)

abbrev pub entry_fault : Naming → List ℕ → EntryFile → Option Fault
entry_fault naming path file = refusal (spot_place path file.at) file.request (entry_answer naming file)

-- the files of an entry, by number
abbrev pub entry_files : Naming → EntrySpec → List ℕ
entry_files naming entry = filter_map (λ file. option_map (λ id. id.0) (entry_file naming file)) entry.files

abbrev pub entry_faults : Naming → List ℕ → EntrySpec → List Fault
entry_faults naming path entry = filter_map (entry_fault naming path) entry.files

-- those of all entries of a configuration, in its order
abbrev pub files_by : Naming → Config → List (List ℕ)
files_by naming config = map (entry_files naming) config.entries

abbrev pub faults_by : Naming → Config → List ℕ → List Fault
faults_by naming config path = flat_map (entry_faults naming path) config.entries
