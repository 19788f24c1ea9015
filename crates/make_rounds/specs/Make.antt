-- What growing the graph of a configuration by workers answers and reads (this project). Nothing here depends on their number,
-- nor on the order of their work, but for who built which module.
use Rattle.std.specs.Prelude.{◌≡◌, ℕ, suc, ◌<◌, ◌↔◌, Bool, false, ◌==◌, List, [], ◌∷◌, map, length, Contains, slice_get, IsPermutation, Option, Some, None, Result, Ok, Err, if◌then◌else◌}
use Rattle.build_round.specs.Readers.{LogsGain, NoStrays}
use Rattle.graph_types.specs.Modules.{Graph, files_of}
use Rattle.graph_types.specs.declared.config.Config.{Config}
use Rattle.module_build.specs.Readings.{AreReadings, Readings}
use Rattle.module_build.specs.Reads.{file_path}
use Rattle.outside.specs.Logs.{Gains, module_paths}
use Rattle.outside.specs.Tree.{Tree}
use Rattle.outside.specs.Views.{ReaderView}
use Rattle.outside.specs.declared.entry.Why.{Why}
use Rattle.make_rounds.specs.Graph.{AnswersGraph, ReadsOnce}
use Rattle.make_rounds.specs.declared.grown.Grown.{Grown}
use Rattle.make_rounds.specs.declared.make_end.MakeEnd.{MakeEnd}

-- the graph of what has grown
abbrev pub graph_in : Result Grown MakeEnd → Result Graph MakeEnd
graph_in (Ok grown) = Ok grown.graph
graph_in (Err end) = Err end

-- ---- owners, by the numbers of files

-- the owner is this worker
abbrev pub is_owner : ℕ → Option ℕ → Bool
is_owner worker None = false
is_owner worker (Some owner) = owner == worker

-- the numbers of the files, from a number on, whose owner this holds of
abbrev pub files_where : (Option ℕ → Bool) → ℕ → List (Option ℕ) → List ℕ
files_where test from [] = []
files_where test from (owner ∷ owners) = if test owner then from ∷ files_where test (suc from) owners else files_where test (suc from) owners

-- The owners are those of so many files. A file has one exactly where it is a module, and it is one of so many workers.
pub record AreOwned (files workers : ℕ) (graph : Graph) (owners : List (Option ℕ)) : Type 0 where
  pub as_many : length owners ≡ files
  pub of_modules : (file : ℕ) → ((owner : ℕ) × (slice_get owners file ≡ Some (Some owner))) ↔ Contains (files_of graph.records) file
  pub by_workers : (file owner : ℕ) → slice_get owners file ≡ Some (Some owner) → owner < workers

-- from a worker on, each reader has read as modules the files that the worker of its place owns, each once, and no others
abbrev pub EachReadsOwn : {R : Type 0} → (R → ReaderView) → Tree → List (Option ℕ) → ℕ → List R → List R → Type 0
EachReadsOwn view tree owners worker [] [] = Unit {0}
EachReadsOwn view tree owners worker [] (new ∷ news) = ⊥
EachReadsOwn view tree owners worker (old ∷ olds) [] = ⊥
EachReadsOwn view tree owners worker (old ∷ olds) (new ∷ news) =
    Gains (view old) (view new) (λ reads. IsPermutation (map (file_path tree) (files_where (is_owner worker) 0 owners)) (module_paths reads))
    × EachReadsOwn view tree owners (suc worker) olds news

abbrev pub ReadsByOwners : {R : Type 0} → (R → ReaderView) → Tree → List R → List R → Result Grown MakeEnd → Type 0
ReadsByOwners view tree readers readers' (Ok grown) = EachReadsOwn view tree grown.owners 0 readers readers'
ReadsByOwners view tree readers readers' (Err end) = Unit {0}

-- ---- the whole

-- what growing the graph of a configuration at a path answers and reads on a tree, by any right reading of texts
pub record Makes {R : Type 0} (view : R → ReaderView) (tree : Tree) (config : Config) (path : List ℕ) (readers readers' : List R) (result : Result Grown MakeEnd) : Type 0 where
  pub no_stray : NoStrays view readers readers'
  pub answer : (readings : Readings) → AreReadings readings → AnswersGraph readings tree config path (graph_in result)
  pub reads : (readings : Readings) → AreReadings readings
      → (reads : List (List ℕ × Why)) × LogsGain view readers readers' reads × ReadsOnce readings tree config (graph_in result) reads
  pub owners : ReadsByOwners view tree readers readers' result
