-- What a build of a tree comes to (this project): the first that applies of usage, a bad configuration, an exceeded limit of
-- the tree, one of its modules, faults, and what the module graph is sealed to. A build whose configuration isn't in the tree
-- comes to nothing: the read of it fails.
use Rattle.std.specs.Prelude.{◌≡◌, ℕ, ◌⊎◌, List, [], ◌∷◌, ◌++◌, map, length, nat_eq, codes, decimal, Option, Some, None, Result, Ok, Err}
use Rattle.std.specs.List.{IsDistinct}
use Rattle.fault_place.specs.declared.fault.Fault.{Fault}
use Rattle.fault_place.specs.declared.limit.Limit.{Limit}
use Rattle.fault_place.specs.declared.place.Place.{Place}
use Rattle.fault_place.specs.Fault.{line_of, in_order}
use Rattle.fault_place.specs.Limit.{name_of, number_of}
use Rattle.fault_place.specs.Place.{place_in}
use Rattle.graph_types.specs.Modules.{Graph}
use Rattle.graph_types.specs.declared.config.Config.{Config as BuildConfig}
use Rattle.make_rounds.specs.Counts.{AreReached}
use Rattle.make_rounds.specs.Graph.{Exceeded, IsGraphBy, first_files}
use Rattle.module_build.specs.Readings.{AreReadings, Readings}
use Rattle.module_build.specs.Reads.{file_path}
use Rattle.module_build.specs.Record.{record_of}
use Rattle.outside.specs.Tree.{Tree, bytes_at}
use Rattle.outside.specs.Sinks.{asset}
use Rattle.outside.specs.declared.asset_sink.Asset.{Asset}
use Rattle.pack_config.specs.Answer.{IsConfigAnswer}
use Rattle.pack_config.specs.declared.fault.ConfigFault.{ConfigFault}
use Rattle.pack_config.specs.declared.fault.ConfigKind.{ConfigKind}
use Rattle.pack_config.specs.declared.fault.ConfigKind.TheVariants as kinds
use Rattle.seal_build.specs.Seal.{SealsTo}
use Rattle.seal_build.specs.Served.{IsServed}
use Rattle.seal_build.specs.declared.seal_end.SealEnd.{SealEnd}
use Rattle.seal_build.specs.declared.seal_end.SealEnd.TheVariants as seal_ends
use Rattle.seal_build.specs.declared.sealed.Sealed.{Sealed}
use Rattle.tree_listing.specs.Limits.{Exceeds}
use Rattle.pack_run.specs.Accepted.{IsBuild, IsRefused}
use Rattle.pack_run.specs.declared.end.End.{End}
use Rattle.pack_run.specs.declared.end.End.TheVariants as ends
use Rattle.pack_run.specs.declared.verdict.Build.{Build}
use Rattle.pack_run.specs.declared.verdict.Verdict.{Verdict}
use Rattle.pack_run.specs.declared.verdict.Verdict.TheVariants.{Usage, Config, Limit as Over, Faults, Built}

-- the assets of what was sealed, and behind them the stats
abbrev pub build_of : ℕ → Sealed → Build
build_of modules sealed = record {
  modules = modules;
  groups = sealed.groups;
  chunks = sealed.chunks;
  splits = sealed.splits;
  assets = sealed.assets ++ asset (codes "stats.json") sealed.stats ∷ [];
}

-- The verdict of what a graph is sealed to. What is written serves: along each load history, each module that a loaded group
-- reaches lies in a loaded chunk, and each split is an admissible candidate in the chunks before it.
abbrev pub IsSealVerdict : Graph → BuildConfig → List ℕ → Result Sealed SealEnd → Verdict → Type 0
IsSealVerdict graph config path (Ok sealed) verdict = (verdict ≡ Built (build_of (length graph.records) sealed)) × IsServed graph config path sealed
IsSealVerdict graph config path (Err (seal_ends.Faults faults)) verdict = verdict ≡ Faults faults
IsSealVerdict graph config path (Err (seal_ends.Limit limit)) verdict = verdict ≡ Over limit
IsSealVerdict graph config path (Err seal_ends.NoMemory) verdict = ⊥

-- the faults of a graph in their order, or what it is sealed to where there are none
abbrev pub IsGraphVerdict : Graph → BuildConfig → List ℕ → List Fault → Verdict → Type 0
IsGraphVerdict graph config path [] verdict = (sealed : Result Sealed SealEnd) × SealsTo graph config path sealed × IsSealVerdict graph config path sealed verdict
IsGraphVerdict graph config path (fault ∷ faults) verdict = verdict ≡ Faults (in_order (fault ∷ faults))

-- the verdict of the graph of a configuration at a path, whose modules have these paths
pub record IsOutcome (readings : Readings) (tree : Tree) (config : BuildConfig) (path : List ℕ) (verdict : Verdict) (paths : List (List ℕ)) : Type 0 where
  pub graph : Graph
  pub graph_is : IsGraphBy readings tree config path graph
  pub verdict_is : IsGraphVerdict graph config path graph.faults verdict
  pub paths_are : paths ≡ map (λ rec. rec.path) graph.records

-- an exceeded limit of the make phase; the paths are those of different reached files
pub record IsOver (readings : Readings) (tree : Tree) (config : BuildConfig) (verdict : Verdict) (paths : List (List ℕ)) : Type 0 where
  pub limit : Limit
  pub exceeded : Exceeded readings tree config limit
  pub verdict_is : verdict ≡ Over limit
  pub files : List ℕ
  pub distinct : IsDistinct nat_eq files
  pub reached : AreReached (record_of readings tree config) (first_files readings tree config) files
  pub paths_are : paths ≡ map (file_path tree) files

-- an exceeded limit, or what the graph comes to where none is
abbrev pub IsMadeBy : Readings → Tree → BuildConfig → List ℕ → Verdict → List (List ℕ) → Type 0
IsMadeBy readings tree config path verdict paths =
    IsOver readings tree config verdict paths
    ⊎ (((limit : Limit) → ¬ Exceeded readings tree config limit) × IsOutcome readings tree config path verdict paths)

-- the same by a right reading of texts
pub record IsMade (tree : Tree) (config : BuildConfig) (path : List ℕ) (verdict : Verdict) (paths : List (List ℕ)) : Type 0 where
  pub readings : Readings
  pub right : AreReadings readings
  pub comes : IsMadeBy readings tree config path verdict paths

-- a verdict for which no module is read
pub record IsEarly (expected verdict : Verdict) (paths : List (List ℕ)) : Type 0 where
  pub verdict_is : verdict ≡ expected
  pub paths_are : paths ≡ []

-- what a tree comes to by a configuration at a path: the limits of the tree, and then the modules
abbrev pub IsTreeVerdict : Tree → List ℕ → BuildConfig → Verdict → List (List ℕ) → Type 0
IsTreeVerdict tree path config verdict paths =
    ((limit : Limit) × Exceeds tree limit × IsEarly (Over limit) verdict paths)
    ⊎ (((limit : Limit) → ¬ Exceeds tree limit) × IsMade tree config path verdict paths)

-- the configuration's fault, or what the tree comes to by it
abbrev pub IsConfigVerdict : Tree → List ℕ → List ℕ → Result BuildConfig ConfigFault → Verdict → List (List ℕ) → Type 0
IsConfigVerdict tree path text (Err fault) verdict paths = IsEarly (Config (place_in path text fault.offset) fault.kind) verdict paths
IsConfigVerdict tree path text (Ok config) verdict paths = IsTreeVerdict tree path config verdict paths

-- what a configuration's text comes to
pub record IsReadVerdict (tree : Tree) (path text : List ℕ) (verdict : Verdict) (paths : List (List ℕ)) : Type 0 where
  pub answer : Result BuildConfig ConfigFault
  pub answer_is : IsConfigAnswer text answer
  pub verdict_is : IsConfigVerdict tree path text answer verdict paths

-- the configuration's bytes, where it is in the tree
abbrev pub IsTextVerdict : Tree → List ℕ → Option (List ℕ) → Verdict → List (List ℕ) → Type 0
IsTextVerdict tree path None verdict paths = ⊥
IsTextVerdict tree path (Some text) verdict paths = IsReadVerdict tree path text verdict paths

-- The verdict of words on a tree that so many readers read, and the paths of the modules that it is made of. Those of a sample
-- have none on it.
abbrev pub IsVerdict : List (List ℕ) → ℕ → Tree → Verdict → List (List ℕ) → Type 0
IsVerdict words readers tree verdict paths =
    (IsRefused words readers × IsEarly Usage verdict paths)
    ⊎ ((config : List ℕ) × IsBuild words readers config × IsTextVerdict tree config (bytes_at tree config) verdict paths)

-- the words name a configuration that isn't in the tree
abbrev pub IsMissing : List (List ℕ) → ℕ → Tree → Type 0
IsMissing words readers tree = (config : List ℕ) × IsBuild words readers config × (bytes_at tree config ≡ None)

-- what a fault of the configuration is called
abbrev pub config_kind_name : ConfigKind → List ℕ
config_kind_name kinds.TooLong = codes "TooLong"
config_kind_name kinds.Json = codes "Json"
config_kind_name kinds.UnknownKey = codes "UnknownKey"
config_kind_name kinds.WrongType = codes "WrongType"
config_kind_name kinds.OutOfRange = codes "OutOfRange"
config_kind_name kinds.Repeated = codes "Repeated"

-- PATH:LINE:COLUMN: config KIND
abbrev pub config_line : Place → ConfigKind → List ℕ
config_line place kind =
    place.path ++ codes ":" ++ decimal place.line ++ codes ":" ++ decimal place.column ++ codes ": config " ++ config_kind_name kind

-- limit: NAME above NUMBER
abbrev pub limit_line : Limit → List ℕ
limit_line limit = codes "limit: " ++ name_of limit ++ codes " above " ++ decimal (number_of limit)

-- faults: N
abbrev pub count_line : ℕ → List ℕ
count_line count = codes "faults: " ++ decimal count

-- a number with what stands before it and after it
abbrev pub around : List ℕ → ℕ → List ℕ → List ℕ
around before number after = before ++ decimal number ++ after

-- built: M modules, C chunks, A assets
abbrev pub built_line : Build → List ℕ
built_line build =
    around (codes "built: ") build.modules (codes " modules, ") ++ around [] build.chunks (codes " chunks, ")
    ++ around [] (length build.assets) (codes " assets")

-- the lines that a verdict is printed as
abbrev pub lines_of : Verdict → List (List ℕ)
lines_of Usage = codes "usage: chunkpack build CONFIG [--workers N] | chunkpack sample N [--workers N]" ∷ []
lines_of (Config place kind) = config_line place kind ∷ []
lines_of (Over limit) = limit_line limit ∷ []
lines_of (Faults faults) = map line_of faults ++ count_line (length faults) ∷ []
lines_of (Built build) = built_line build ∷ []

-- the assets that a verdict writes
abbrev pub assets_of : Verdict → List Asset
assets_of Usage = []
assets_of (Config place kind) = []
assets_of (Over limit) = []
assets_of (Faults faults) = []
assets_of (Built build) = build.assets

-- the end that tells a verdict
abbrev pub end_by : Verdict → End
end_by Usage = ends.Usage
end_by (Config place kind) = ends.Config
end_by (Over limit) = ends.Limit limit
end_by (Faults faults) = ends.Faults (length faults)
end_by (Built build) = ends.Built
