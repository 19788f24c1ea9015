-- What a round of workers over a frontier of files promises (this project): each file of the frontier is claimed once, and
-- the seat that claims it builds and publishes its record.
use Rattle.std.specs.Prelude.{◌≡◌, ℕ, ◌<◌, ◌⊎◌, Bool, false, ◌||◌, ◌==◌, List, [], ◌∷◌, ◌++◌, map, length, drop, flat_map, nat_eq, Contains, IsTrue}
use Rattle.std.specs.List.{list_any, AllByRecursion, AllZip, IsDistinct}
use Rattle.claim_board.specs.Claims.{IsSameSeat, published, seen, won}
use Rattle.claim_board.specs.Lists.{is_in}
use Rattle.claim_board.specs.declared.seat.ClaimSeat.{ClaimSeat}
use Rattle.pack_util.specs.declared.number.FileId.{FileId}
use Rattle.graph_types.specs.Modules.{file_id}
use Rattle.graph_types.specs.Targets.{targets_of}
use Rattle.graph_types.specs.declared.config.Config.{Config}
use Rattle.graph_types.specs.declared.record.ModRecord.{ModRecord}
use Rattle.module_build.specs.Readings.{AreReadings, Readings}
use Rattle.module_build.specs.Reads.{ReadsPaths, file_path}
use Rattle.module_build.specs.Record.{record_of}
use Rattle.module_build.specs.Shape.{IsSimple}
use Rattle.outside.specs.Logs.{Gains}
use Rattle.outside.specs.Tree.{Tree}
use Rattle.outside.specs.Views.{ReaderView}
use Rattle.outside.specs.declared.entry.Why.{Why}
use Rattle.resolve_path.specs.Caches.{AreTrue}
use Rattle.resolve_path.specs.declared.kept.KeptManifest.{KeptManifest}

-- ---- what a seat gained

-- what stands behind the members that a list had
abbrev pub gained : {A : Type 0} → List A → List A → List A
gained old new = drop (length old) new

-- the list keeps what it had, in its place
abbrev pub HasGrown : {A : Type 0} → List A → List A → Type 0
HasGrown old new = new ≡ old ++ gained old new

-- the files that the seat claimed in the round, in order
abbrev pub newly_won : ClaimSeat → ClaimSeat → List ℕ
newly_won old new = gained (won old) (won new)

-- the files that it published in the round with their records, in order
abbrev pub newly_published : ClaimSeat → ClaimSeat → List (ℕ × ModRecord)
newly_published old new = gained (published old) (published new)

abbrev pub numbers_in : List (ℕ × ModRecord) → List ℕ
numbers_in pairs = map (λ pair. pair.0) pairs

-- What a seat gained in a round over these files, of so many in all, however the round ended.
pub record Wins (count : ℕ) (frontier : List FileId) (old new : ClaimSeat) : Type 0 where
  pub same : IsSameSeat old new
  pub won_grows : HasGrown (won old) (won new)
  pub published_grows : HasGrown (published old) (published new)
  pub seen_grows : HasGrown (seen old) (seen new)
  -- each file that it claimed is of the frontier, was not its own before, and was claimed once
  pub of_frontier : AllByRecursion (Contains (map (λ file. file.0) frontier)) (newly_won old new)
  pub once : IsDistinct nat_eq (newly_won old new)
  pub none_before : AllByRecursion (λ file. is_in file (won old) ≡ false) (newly_won old new)
  -- it published in the order of its claims, and what it published are records of these files
  pub in_order : (rest : List ℕ) × (newly_won old new ≡ numbers_in (newly_published old new) ++ rest)
  pub simple : AllByRecursion (λ pair. IsSimple count (file_id pair.0) pair.1) (newly_published old new)

-- ---- what a round that ended well has done

-- the seat has published each file that it claimed in the round
abbrev pub HasPublishedAll : ClaimSeat → ClaimSeat → Type 0
HasPublishedAll old new = numbers_in (newly_published old new) ≡ newly_won old new

-- the seat claimed the file, or was told who did
abbrev pub knows : ℕ → ClaimSeat → Bool
knows file seat = is_in file (won seat) || list_any (λ pair. pair.0 == file) (seen seat)

-- some seat does
abbrev pub is_known : ℕ → List ClaimSeat → Bool
is_known file seats = list_any (knows file) seats

-- the records that were published in the round, from the first seat on
abbrev pub all_published : List ClaimSeat → List ClaimSeat → List ModRecord
all_published [] news = []
all_published (old ∷ olds) [] = []
all_published (old ∷ olds) (new ∷ news) = map (λ pair. pair.1) (newly_published old new) ++ all_published olds news

-- the files that these records name
abbrev pub named_by : List ModRecord → List ℕ
named_by records = flat_map targets_of records

-- Each file of the frontier has an owner that some seat knows, and each file that a seat claimed has its record. The answer
-- holds files that these records name, and each such file that no seat knows.
pub record IsDone (count : ℕ) (frontier : List FileId) (olds news : List ClaimSeat) (answer : List FileId) : Type 0 where
  pub known : AllByRecursion (λ file. IsTrue (is_known file.0 news)) frontier
  pub published : AllZip HasPublishedAll olds news
  pub named : AllByRecursion (λ file. Contains (named_by (all_published olds news)) file.0) answer
  pub all_named : AllByRecursion (λ file. Contains (map (λ kept. kept.0) answer) file ⊎ IsTrue (is_known file news)) (named_by (all_published olds news))
  pub within : AllByRecursion (λ file. file.0 < count) answer

-- ---- what a worker reads

-- a worker's reader, seat and cache, before a round and after it
pub record Worker : Type 0 where
  pub before : ReaderView
  pub now : ReaderView
  pub old : ClaimSeat
  pub new : ClaimSeat
  pub cache : List KeptManifest
  pub cache' : List KeptManifest

-- worker by worker: each seat has the reader and the cache of its place
abbrev pub workers_of : {R : Type 0} → (R → ReaderView) → List R → List R → List ClaimSeat → List ClaimSeat → List (List KeptManifest) → List (List KeptManifest) → List Worker
workers_of view (reader ∷ readers) (reader' ∷ readers') (old ∷ olds) (new ∷ news) (cache ∷ caches) (cache' ∷ caches') =
    record { before = view reader; now = view reader'; old = old; new = new; cache = cache; cache' = cache' } ∷ workers_of view readers readers' olds news caches caches'
workers_of view readers readers' olds news caches caches' = []

-- These claimed files are read, each once and in order, and besides nothing but manifests; the last of them need not be
-- where its record wasn't published.
abbrev pub ReadsWon : Tree → List ℕ → List ℕ → List (List ℕ × Why) → Type 0
ReadsWon tree claimed built reads = ReadsPaths (map (file_path tree) built) reads ⊎ ReadsPaths (map (file_path tree) claimed) reads

-- what a worker did in a round on a tree
pub record WorksOn (tree : Tree) (config : Config) (worker : Worker) : Type 0 where
  pub no_stray : worker.now.strays ≡ worker.before.strays
  pub cache : AreTrue tree worker.cache → AreTrue tree worker.cache'
  -- where the cache is true of the tree, what it published are the files' records, by any right reading of texts
  pub records : AreTrue tree worker.cache → (readings : Readings) → AreReadings readings
      → AllByRecursion (λ pair. pair.1 ≡ record_of readings tree config pair.0) (newly_published worker.old worker.new)
  pub reads : Gains worker.before worker.now (ReadsWon tree (newly_won worker.old worker.new) (numbers_in (newly_published worker.old worker.new)))
