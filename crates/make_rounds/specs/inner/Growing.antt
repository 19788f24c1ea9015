-- What stays true while workers grow a graph round by round (this project).
use Rattle.std.specs.Prelude.{◌≡◌, ℕ, ◌<◌, ◌++◌, ◌⊎◌, Bool, List, [], ◌∷◌, nat_eq, Contains, IsTrue, Result, IfErr}
use Rattle.std.specs.List.{AllByRecursion, IsDistinct}
use Rattle.build_round.specs.Rounds.{ReadsWon, is_known, numbers_in}
use Rattle.claim_board.specs.Claims.{published, won}
use Rattle.claim_board.specs.declared.seat.ClaimSeat.{ClaimSeat}
use Rattle.graph_types.specs.Modules.{file_id}
use Rattle.graph_types.specs.Reached.{HoldsAll, IsClosed}
use Rattle.graph_types.specs.Targets.{targets_by, targets_of}
use Rattle.graph_types.specs.declared.config.Config.{Config}
use Rattle.graph_types.specs.declared.record.ModRecord.{ModRecord}
use Rattle.module_build.specs.Readings.{AreReadings, Readings}
use Rattle.module_build.specs.Reads.{ReadsPaths}
use Rattle.module_build.specs.Record.{record_of}
use Rattle.module_build.specs.Shape.{IsSimple}
use Rattle.outside.specs.Logs.{Gains}
use Rattle.outside.specs.Tree.{Tree}
use Rattle.outside.specs.Views.{ReaderView}
use Rattle.resolve_path.specs.Caches.{AreTrue}
use Rattle.resolve_path.specs.declared.kept.KeptManifest.{KeptManifest}
use Rattle.make_rounds.specs.Counts.{AreReached, ExceedsReached}
use Rattle.make_rounds.specs.declared.make_end.MakeEnd.{MakeEnd}
use Rattle.make_rounds.specs.declared.make_end.MakeEnd.TheVariants as ends

-- ---- seats

-- what a seat holds among so many files, at any time: it claimed each file once, and published records of those in their order
pub record HasWon (count : ℕ) (seat : ClaimSeat) : Type 0 where
  pub distinct : IsDistinct nat_eq (won seat)
  pub within : AllByRecursion (λ file. file < count) (won seat)
  pub in_order : (rest : List ℕ) × (won seat ≡ numbers_in (published seat) ++ rest)
  pub simple : AllByRecursion (λ pair. IsSimple count (file_id pair.0) pair.1) (published seat)

-- it has published each file that it claimed
abbrev pub HasBuilt : ClaimSeat → Type 0
HasBuilt seat = numbers_in (published seat) ≡ won seat

-- the file is still to come, or some seat knows it
abbrev pub IsMet : List ℕ → List ClaimSeat → ℕ → Type 0
IsMet frontier seats file = Contains frontier file ⊎ IsTrue (is_known file seats)

-- each first file and each file that a record names is
pub record AreMet (first frontier : List ℕ) (seats : List ClaimSeat) : Type 0 where
  pub firsts : AllByRecursion (IsMet frontier seats) first
  pub targets : (seat : ClaimSeat) → Contains seats seat → (file : ℕ) (rec : ModRecord) → Contains (published seat) (file, rec) → AllByRecursion (IsMet frontier seats) (targets_of rec)

-- the seats built all that they claimed, and know each first file and each file that a record names
pub record IsFinished (first : List ℕ) (seats : List ClaimSeat) : Type 0 where
  pub built : AllByRecursion HasBuilt seats
  pub met : AreMet first [] seats

-- ---- what the tree tells

-- the published records are those of their files, and each claimed file is reached
pub record AreMade (record_of : ℕ → ModRecord) (first : List ℕ) (seats : List ClaimSeat) : Type 0 where
  pub records : (seat : ClaimSeat) → Contains seats seat → (file : ℕ) (rec : ModRecord) → Contains (published seat) (file, rec) → rec ≡ record_of file
  pub reached : (set : ℕ → Bool) → HoldsAll set first → IsClosed (targets_by record_of) set → AllByRecursion (λ seat. HoldsAll set (won seat)) seats

-- these files are reached too
pub record AreMaking (record_of : ℕ → ModRecord) (first frontier found : List ℕ) (seats : List ClaimSeat) : Type 0 where
  pub made : AreMade record_of first seats
  pub next : AreReached record_of first frontier
  pub counted : AreReached record_of first found

-- a limit that is answered is exceeded by reached files
abbrev pub EndsGrowing : (ℕ → ModRecord) → List ℕ → MakeEnd → Type 0
EndsGrowing record_of first ends.ReadFault = Unit {0}
EndsGrowing record_of first (ends.Limit limit) = ExceedsReached record_of first limit
EndsGrowing record_of first ends.NoMemory = Unit {0}

-- ---- readers

-- a reader reads what the seat of its place claimed
pub record HasRead (tree : Tree) (before now : ReaderView) (seat : ClaimSeat) : Type 0 where
  pub no_stray : now.strays ≡ before.strays
  pub reads : Gains before now (ReadsWon tree (won seat) (numbers_in (published seat)))

-- or nothing as a module
pub record HasReadNone (before now : ReaderView) : Type 0 where
  pub no_stray : now.strays ≡ before.strays
  pub reads : Gains before now (ReadsPaths [])

-- each reader has read what its seat claimed, and one without a seat nothing
abbrev pub EachReads : {R : Type 0} → (R → ReaderView) → Tree → List R → List R → List ClaimSeat → Type 0
EachReads view tree [] [] [] = Unit {0}
EachReads view tree [] [] (seat ∷ seats) = ⊥
EachReads view tree [] (new ∷ news) seats = ⊥
EachReads view tree (old ∷ olds) [] seats = ⊥
EachReads view tree (old ∷ olds) (new ∷ news) [] = HasReadNone (view old) (view new) × EachReads view tree olds news []
EachReads view tree (old ∷ olds) (new ∷ news) (seat ∷ seats) = HasRead tree (view old) (view new) seat × EachReads view tree olds news seats

-- between two rounds, on a tree
pub record AreGrowing {R : Type 0} (view : R → ReaderView) (tree : Tree) (config : Config) (first : List ℕ) (readers readers' : List R) (caches : List (List KeptManifest)) (frontier found : List ℕ) (seats : List ClaimSeat) : Type 0 where
  pub trusted : AllByRecursion (AreTrue tree) caches
  pub reads : EachReads view tree readers readers' seats
  pub making : (readings : Readings) → AreReadings readings → AreMaking (record_of readings tree config) first frontier found seats

-- what growing the graph of the first files answers and reads on a tree
pub record Grows {T R : Type 0} (view : R → ReaderView) (tree : Tree) (config : Config) (first : List ℕ) (readers readers' : List R) (seats : List ClaimSeat) (result : Result T MakeEnd) : Type 0 where
  pub reads : EachReads view tree readers readers' seats
  pub made : (readings : Readings) → AreReadings readings → AreMade (record_of readings tree config) first seats
  pub ends : (readings : Readings) → AreReadings readings → IfErr result (EndsGrowing (record_of readings tree config) first)
