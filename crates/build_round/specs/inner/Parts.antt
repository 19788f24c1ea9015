-- What one worker of a round does (this project), in terms of the lists that it added.
use Rattle.std.specs.Prelude.{◌≡◌, ℕ, ◌<◌, ◌⊎◌, Bool, true, false, List, [], ◌∷◌, ◌++◌, map, length, slice_index_or, nat_eq, Contains, IsTrue, IsOk, IsErrOf, Result}
use Rattle.std.specs.List.{AllByRecursion, IsDistinct}
use Rattle.claim_board.specs.Claims.{IsSameSeat, IsSeatOf, published, seen, won}
use Rattle.claim_board.specs.Lists.{is_in}
use Rattle.claim_board.specs.declared.board.ClaimBoard.{ClaimBoard}
use Rattle.claim_board.specs.declared.seat.ClaimSeat.{ClaimSeat}
use Rattle.draw_board.specs.Draws.{IsNewSeat, drawn, has_drawn_none}
use Rattle.draw_board.specs.Draws as draw
use Rattle.draw_board.specs.declared.board.DrawBoard.{DrawBoard}
use Rattle.draw_board.specs.declared.seat.DrawSeat.{DrawSeat}
use Rattle.pack_util.specs.declared.number.FileId.{FileId}
use Rattle.graph_types.specs.Modules.{file_id}
use Rattle.graph_types.specs.declared.config.Config.{Config}
use Rattle.graph_types.specs.declared.record.ModRecord.{ModRecord}
use Rattle.module_build.specs.Readings.{AreReadings, Readings}
use Rattle.module_build.specs.Record.{record_of}
use Rattle.module_build.specs.Shape.{IsSimple}
use Rattle.outside.specs.Cause.{HasCause}
use Rattle.outside.specs.Logs.{Gains}
use Rattle.outside.specs.Tree.{Told, Tree}
use Rattle.outside.specs.Views.{ReaderView}
use Rattle.outside.specs.declared.outside_end.OutsideEnd.{OutsideEnd}
use Rattle.outside.specs.declared.outside_end.OutsideEnd.TheVariants.{Failed}
use Rattle.resolve_path.specs.Caches.{AreTrue}
use Rattle.resolve_path.specs.declared.kept.KeptManifest.{KeptManifest}
use Rattle.tree_listing.specs.Listing.{IsListingOf, Listed}
use Rattle.build_round.specs.Rounds.{ReadsWon, knows, named_by, numbers_in}
use Rattle.build_round.specs.declared.part.Bench.{Bench}
use Rattle.build_round.specs.declared.part.Part.{Part}

-- ---- a seat

-- the seat claimed these files more, published these records more, and was told some owners
pub record Adds (old new : ClaimSeat) (claimed : List ℕ) (built : List (ℕ × ModRecord)) : Type 0 where
  pub same : IsSameSeat old new
  pub won_is : won new ≡ won old ++ claimed
  pub published_is : published new ≡ published old ++ built
  pub told : List (ℕ × ℕ)
  pub seen_is : seen new ≡ seen old ++ told

-- the same of a seat that took these files of so many
pub record Takes (count : ℕ) (taken : List ℕ) (old new : ClaimSeat) (claimed : List ℕ) (built : List (ℕ × ModRecord)) : Type 0 where
  pub adds : Adds old new claimed built
  pub of_taken : AllByRecursion (Contains taken) claimed
  pub once : IsDistinct nat_eq claimed
  pub none_before : AllByRecursion (λ file. is_in file (won old) ≡ false) claimed
  pub in_order : (rest : List ℕ) × (claimed ≡ numbers_in built ++ rest)
  pub simple : AllByRecursion (λ pair. IsSimple count (file_id pair.0) pair.1) built
  pub known : AllByRecursion (λ file. IsTrue (knows file new)) taken

-- ---- the files that are kept

-- these are files among the named ones, and each named one that isn't known is here
pub record AreKept (count : ℕ) (known : ℕ → Bool) (named : List ℕ) (kept : List FileId) : Type 0 where
  pub of_named : AllByRecursion (λ file. Contains named file.0) kept
  pub all_named : AllByRecursion (λ file. Contains (map (λ one. one.0) kept) file ⊎ IsTrue (known file)) named
  pub within : AllByRecursion (λ file. file.0 < count) kept

-- such files have joined the list, where known is what the seat knows
pub record Keeps (count : ℕ) (seat : ClaimSeat) (named : List ℕ) (old new : List FileId) : Type 0 where
  pub kept : List FileId
  pub new_is : new ≡ old ++ kept
  pub are : AreKept count (λ file. knows file seat) named kept

-- ---- what is read

-- what a worker does on a tree that its reader tells, by the tree's listing
pub record DoesOn (tree : Tree) (config : Config) (before now : ReaderView) (old new : List KeptManifest) (claimed : List ℕ) (built : List (ℕ × ModRecord)) : Type 0 where
  pub no_stray : now.strays ≡ before.strays
  pub cache : AreTrue tree old → AreTrue tree new
  pub records : AreTrue tree old → (readings : Readings) → AreReadings readings → AllByRecursion (λ pair. pair.1 ≡ record_of readings tree config pair.0) built
  pub reads : Gains before now (ReadsWon tree claimed (numbers_in built))

-- ---- a worker

-- none of these, or the one record of the file
pub data IsRecordOf (count file : ℕ) : List (ℕ × ModRecord) → Type 0 where
  is_none : IsRecordOf count file []
  is_one : (rec : ModRecord) → IsSimple count (file_id file) rec → IsRecordOf count file ((file, rec) ∷ [])

-- the number of the file at a position
abbrev pub file_at : List FileId → ℕ → ℕ
file_at frontier position = (slice_index_or frontier position (file_id 0)).0

module _ {R : Type 0} (view : R → ReaderView) (follows : R → R → Type 0) (listing : Listed) (config : Config) where
  -- what a worker does with its reader and its cache
  pub record Reads (old new : Bench R) (claimed : List ℕ) (built : List (ℕ × ModRecord)) (end : Result Unit OutsideEnd) : Type 0 where
    pub follows_it : follows old.reader new.reader
    pub cause : HasCause (view old.reader).faults (view new.reader).faults end
    pub told : Told (view old.reader).tree (λ tree. IsListingOf tree listing → DoesOn tree config (view old.reader) (view new.reader) old.cache new.cache claimed built)

  -- where it ended well, each claimed file has its record, and what the records name is kept or known
  pub record IsWhole (old new : Bench R) (claimed : List ℕ) (built : List (ℕ × ModRecord)) : Type 0 where
    pub published_all : numbers_in built ≡ claimed
    pub keeps : Keeps (length listing.files) new.seat (named_by (map (λ pair. pair.1) built)) old.kept.items new.kept.items

  -- a file that the seat claimed before is built
  pub record BuildsOne (file : ℕ) (old new : Bench R) (end : Result Unit OutsideEnd) : Type 0 where
    pub built : List (ℕ × ModRecord)
    pub adds : Adds old.seat new.seat [] built
    pub is_record : IsRecordOf (length listing.files) file built
    pub reads : Reads old new (file ∷ []) built end
    pub whole : IsOk end → IsWhole old new (file ∷ []) built

  -- these files are taken: each is claimed and built, or is another's
  pub record Works (taken : List ℕ) (old new : Bench R) (end : Result Unit OutsideEnd) : Type 0 where
    pub claimed : List ℕ
    pub built : List (ℕ × ModRecord)
    pub takes : Takes (length listing.files) taken old.seat new.seat claimed built
    pub reads : Reads old new claimed built end
    pub whole : IsOk end → IsWhole old new claimed built

  -- the files at the drawn positions are taken, and where that ended well, none is left to draw
  pub record Does (frontier : List FileId) (old new : Bench R) (hand hand' : DrawSeat) (end : Result Unit OutsideEnd) : Type 0 where
    pub same_hand : draw.IsSameSeat hand hand'
    pub inside : AllByRecursion (λ position. position < length frontier) (drawn hand')
    pub works : Works (map (file_at frontier) (drawn hand')) old new end
    pub all : IsOk end → has_drawn_none hand' ≡ true

  pub record DoesPart (frontier : List FileId) (old new : Part R) : Type 0 where
    pub does : Does frontier old.bench new.bench old.hand new.hand new.end

-- a part before its work
pub record IsReady {R : Type 0} (board : ClaimBoard) (draws : DrawBoard) (part : Part R) : Type 0 where
  pub seat : IsSeatOf board part.bench.seat
  pub hand : draw.IsSeatOf draws part.hand
  pub new : IsNewSeat part.hand
  pub nothing_kept : part.bench.kept.items ≡ []

-- some part ended as a call on the outside that failed
abbrev pub SomeFailed : {R : Type 0} → List (Part R) → Type 0
SomeFailed [] = ⊥
SomeFailed (part ∷ parts) = IsErrOf part.end Failed ⊎ SomeFailed parts

abbrev pub kept_by : {R : Type 0} → Part R → List FileId
kept_by part = part.bench.kept.items
