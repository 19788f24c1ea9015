-- What the seal phase may rely on in a graph, whatever a reader gave (this project).
use Rattle.std.specs.Prelude.{◌≡◌, ℕ, ◌≤◌, ◌⊎◌, length, Any, Contains}
use Rattle.std.specs.List.{AllByRecursion}
use Rattle.fault_place.specs.Limit.{number_of}
use Rattle.fault_place.specs.declared.fault.FaultKind.TheVariants.{TooLong}
use Rattle.fault_place.specs.declared.limit.Limit.TheVariants.{Modules, Blocks}
use Rattle.pack_util.specs.declared.number.TheConstants.{MAX_TEXT}
use Rattle.graph_types.specs.Edges.{blocks_of}
use Rattle.graph_types.specs.Modules.{Graph}
use Rattle.graph_types.specs.Whole.{IsWhole}
use Rattle.graph_types.specs.declared.record.ModRecord.{ModRecord}

-- a module that isn't too long has a size and a text within the limit
abbrev pub IsSized : ModRecord → Type 0
IsSized rec = Any (λ fault. fault.kind ≡ TooLong) rec.faults ⊎ ((rec.size ≤ MAX_TEXT) × (length rec.text ≤ MAX_TEXT))

-- a graph of so many entries and of whole records, whose faults are among its own
pub record HoldsWholeRecords (entries : ℕ) (graph : Graph) : Type 0 where
  pub entry_lists : length graph.roots ≡ entries
  pub sized : AllByRecursion IsSized graph.records
  pub whole : AllByRecursion IsWhole graph.records
  pub faults : AllByRecursion (λ rec. AllByRecursion (Contains graph.faults) rec.faults) graph.records

-- and within the limits on modules and blocks: the graph fits a configuration of so many entries
pub record Fits (entries : ℕ) (graph : Graph) : Type 0 where
  pub few_modules : length graph.records ≤ number_of Modules
  pub few_blocks : length (blocks_of graph.records) ≤ number_of Blocks
  pub records : HoldsWholeRecords entries graph
