-- The module graph of a function from files to records (this project): the records of the reached files, whatever the
-- order of work. The records of a tree's files are one such function.
use Rattle.std.specs.Prelude.{◌≡◌, ℕ, List, ◌++◌, map, flat_map, filter_map}
use Rattle.std.specs.List.Sorted.{IsStrictlyIncreasing}
use Rattle.fault_place.specs.declared.fault.Fault.{Fault}
use Rattle.pack_util.specs.declared.number.ModuleNo.{ModuleNo}
use Rattle.graph_types.specs.Modules.{Graph, file_id, module_of}
use Rattle.graph_types.specs.Reached.{IsReached}
use Rattle.graph_types.specs.Targets.{targets_by}
use Rattle.graph_types.specs.declared.record.ModRecord.{ModRecord}

-- the modules of an entry's files
abbrev pub roots_of : List ModRecord → List ℕ → List ModuleNo
roots_of records files = filter_map (module_of records) (map file_id files)

-- The graph of the files that are reached from the files of all entries: their records, in the order of the files; the
-- modules of each entry; and the faults that were given, then those of the records.
pub record IsGraphOf (record_of : ℕ → ModRecord) (entries : List (List ℕ)) (faults : List Fault) (graph : Graph) : Type 0 where
  pub members : List ℕ
  pub ascending : IsStrictlyIncreasing members
  pub reached : IsReached (targets_by record_of) (flat_map (λ files. files) entries) members
  pub records_are : graph.records ≡ map record_of members
  pub roots_are : graph.roots ≡ map (roots_of graph.records) entries
  pub faults_are : graph.faults ≡ faults ++ flat_map (λ rec. rec.faults) graph.records
