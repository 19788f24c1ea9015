-- What the make phase answers and reads on a tree (this project).
use Rattle.std.specs.Prelude.{◌≡◌, ℕ, List, [], map, flat_map, nat_eq, IsPermutation, Result, Ok, Err}
use Rattle.std.specs.List.{IsDistinct}
use Rattle.fault_place.specs.declared.limit.Limit.{Limit}
use Rattle.graph_types.specs.Graphs.{IsGraphOf}
use Rattle.graph_types.specs.Modules.{Graph}
use Rattle.graph_types.specs.declared.config.Config.{Config}
use Rattle.module_build.specs.Readings.{Readings}
use Rattle.module_build.specs.Reads.{ReadsPaths, file_path}
use Rattle.module_build.specs.Record.{record_of}
use Rattle.outside.specs.Logs.{is_config, paths_for}
use Rattle.outside.specs.Tree.{Tree}
use Rattle.outside.specs.declared.entry.Why.{Why}
use Rattle.make_rounds.specs.Counts.{AreReached, ExceedsReached}
use Rattle.make_rounds.specs.Entries.{faults_by, files_by, root_naming}
use Rattle.make_rounds.specs.declared.make_end.MakeEnd.{MakeEnd}
use Rattle.make_rounds.specs.declared.make_end.MakeEnd.TheVariants as ends

-- the files of all entries, one entry after another
abbrev pub first_files : Readings → Tree → Config → List ℕ
first_files readings tree config = flat_map (λ files. files) (files_by (root_naming readings tree config) config)

-- the graph of the configuration at a path: its entries' faults, and then those of the records
abbrev pub IsGraphBy : Readings → Tree → Config → List ℕ → Graph → Type 0
IsGraphBy readings tree config path =
    IsGraphOf (record_of readings tree config) (files_by (root_naming readings tree config) config) (faults_by (root_naming readings tree config) config path)

-- a limit is exceeded by files that the entries lead to
abbrev pub Exceeded : Readings → Tree → Config → Limit → Type 0
Exceeded readings tree config limit = ExceedsReached (record_of readings tree config) (first_files readings tree config) limit

-- different files, none of which isn't reached, are read as modules, each once, and no others are
pub record ReadsReached (readings : Readings) (tree : Tree) (config : Config) (reads : List (List ℕ × Why)) : Type 0 where
  pub files : List ℕ
  pub distinct : IsDistinct nat_eq files
  pub are : ReadsPaths (map (file_path tree) files) reads
  pub reached : AreReached (record_of readings tree config) (first_files readings tree config) files

-- Each module of the graph is read once as one, and no other file is. Where there is no graph, no file is read twice, and none
-- that isn't reached; where memory ran out, that isn't said.
abbrev pub ReadsOnce : Readings → Tree → Config → Result Graph MakeEnd → List (List ℕ × Why) → Type 0
ReadsOnce readings tree config (Ok graph) reads = (paths : List (List ℕ)) × IsPermutation (map (λ rec. rec.path) graph.records) paths × ReadsPaths paths reads
ReadsOnce readings tree config (Err ends.ReadFault) reads = ReadsReached readings tree config reads
ReadsOnce readings tree config (Err (ends.Limit limit)) reads = ReadsReached readings tree config reads
ReadsOnce readings tree config (Err ends.NoMemory) reads = paths_for is_config reads ≡ []

-- an Ok is the graph, and then no limit is exceeded; a limit that is answered is exceeded
abbrev pub AnswersGraph : Readings → Tree → Config → List ℕ → Result Graph MakeEnd → Type 0
AnswersGraph readings tree config path (Ok graph) = IsGraphBy readings tree config path graph × ((limit : Limit) → ¬ Exceeded readings tree config limit)
AnswersGraph readings tree config path (Err ends.ReadFault) = Unit {0}
AnswersGraph readings tree config path (Err (ends.Limit limit)) = Exceeded readings tree config limit
AnswersGraph readings tree config path (Err ends.NoMemory) = Unit {0}
