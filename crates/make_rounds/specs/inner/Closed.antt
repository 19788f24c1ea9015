-- What is put together once the board is closed (this project).
use Rattle.std.specs.Prelude.{◌≡◌, ℕ, ◌<◌, ◌≤◌, ◌++◌, ◌⊎◌, List, map, flat_map, filter_map, IsPermutation, Option, Result, Err, IsOk}
use Rattle.claim_board.specs.Closing.{Closes}
use Rattle.claim_board.specs.declared.seat.ClaimSeat.{ClaimSeat}
use Rattle.fault_place.specs.Limit.{number_of}
use Rattle.fault_place.specs.declared.fault.Fault.{Fault}
use Rattle.fault_place.specs.declared.limit.Limit.{Limit}
use Rattle.pack_util.specs.declared.number.FileId.{FileId}
use Rattle.graph_types.specs.Modules.{AreAscending, Graph, module_of}
use Rattle.graph_types.specs.declared.record.ModRecord.{ModRecord}
use Rattle.make_rounds.specs.Counts.{counted}
use Rattle.make_rounds.specs.declared.grown.Grown.{Grown}
use Rattle.make_rounds.specs.declared.make_end.MakeEnd.{MakeEnd}
use Rattle.make_rounds.specs.declared.make_end.MakeEnd.TheVariants as ends

-- the records that are there
abbrev pub present : List (Option ModRecord) → List ModRecord
present slots = filter_map (λ slot. slot) slots

-- the graph of records, the files of the entries, and faults that were found before
pub record IsGraphFrom (records : List ModRecord) (entries : List (List FileId)) (faults : List Fault) (graph : Graph) : Type 0 where
  pub same : IsPermutation records graph.records
  pub ascending : AreAscending graph.records
  pub roots_are : graph.roots ≡ map (filter_map (module_of graph.records)) entries
  pub faults_are : graph.faults ≡ faults ++ flat_map (λ rec. rec.faults) graph.records

-- the owners and the graph are what the closed board of so many files tells, within the limits
pub record IsGrownFrom (files : ℕ) (seats : List ClaimSeat) (entries : List (List FileId)) (faults : List Fault) (grown : Grown) : Type 0 where
  pub slots : List (Option ModRecord)
  pub closes : Closes files seats grown.owners slots
  pub allowed : (limit : Limit) → counted (present slots) limit ≤ number_of limit
  pub from : IsGraphFrom (present slots) entries faults grown.graph

-- the board was closed, and either the work had this end or its records exceed this limit
pub record HasClosed {T : Type 0} (files : ℕ) (seats : List ClaimSeat) (end : Result T MakeEnd) (answer : MakeEnd) : Type 0 where
  pub owners : List (Option ℕ)
  pub slots : List (Option ModRecord)
  pub closes : Closes files seats owners slots
  pub why : (end ≡ Err answer) ⊎ (IsOk end × ((limit : Limit) × (answer ≡ ends.Limit limit) × (number_of limit < counted (present slots) limit)))

abbrev pub EndsFrom : {T : Type 0} → ℕ → List ClaimSeat → Result T MakeEnd → MakeEnd → Type 0
EndsFrom files seats end answer = (answer ≡ ends.NoMemory) ⊎ HasClosed files seats end answer
