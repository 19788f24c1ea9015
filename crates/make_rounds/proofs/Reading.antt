-- What readers read, round after round.
use Rattle.std.proofs.Common.{◌≡◌, ◌⊎◌, ℕ, ◌≤◌, List, [], ◌∷◌, ◌++◌, append_assoc, length, drop, map, refl, sym, ap, subst, ◌∙◌, inl, inr, arith}
use Rattle.std.proofs.lemmas.List.{map-append}
use Rattle.std.specs.List.{AllByRecursion, AllZip}
use Rattle.std.specs.Prelude.{flat_map}
use Rattle.build_round.specs.Readers.{LogsGain, NoStrays}
use Rattle.build_round.specs.Rounds.{ReadsWon, Wins, Worker, WorksOn, newly_published, newly_won, numbers_in, workers_of}
use Rattle.claim_board.specs.Claims.{lists_of, published, won}
use Rattle.claim_board.specs.Lists.{empty_lists}
use Rattle.claim_board.specs.declared.lists.Lists.{Lists}
use Rattle.claim_board.specs.declared.seat.ClaimSeat.{ClaimSeat}
use Rattle.pack_util.specs.declared.number.FileId.{FileId}
use Rattle.graph_types.specs.declared.config.Config.{Config}
use Rattle.graph_types.specs.declared.record.ModRecord.{ModRecord}
use Rattle.module_build.proofs.Gains.{gains_none, reads_more, reads_none}
use Rattle.module_build.specs.Readings.{AreReadings, Readings}
use Rattle.module_build.specs.Reads.{ReadsPaths, file_path}
use Rattle.module_build.specs.Record.{record_of}
use Rattle.outside.specs.Logs.{Gains}
use Rattle.outside.specs.Tree.{Tree}
use Rattle.outside.specs.Views.{ReaderView}
use Rattle.outside.specs.declared.entry.Why.{Why}
use Rattle.resolve_path.specs.Caches.{AreTrue}
use Rattle.resolve_path.specs.declared.kept.KeptManifest.{KeptManifest}
use Rattle.make_rounds.specs.inner.Growing.{EachReads, HasBuilt, HasRead, HasReadNone}
use Rattle.make_rounds.specs.inner.Starting.{AreReadNone}

abbrev Reads : Type 0
Reads = List (List ℕ × Why)

-- what a seat's reader read: what the seat published, or all that it claimed
abbrev pub IsOwn : List ℕ → ClaimSeat → Type 0
IsOwn own seat = (own ≡ numbers_in (published seat)) ⊎ (own ≡ won seat)

-- what is read first, and then what is read next
pub gains_on : (before between now : ReaderView) (One Two Both : Reads → Type 0) → ((one two : Reads) → One one → Two two → Both (one ++ two)) → Gains before between One → Gains between now Two → Gains before now Both
gains_on before between now One Two Both join first second = (
  first.0 ++ second.0,
  second.1 ∙ ap (λ log. log ++ second.0) first.1 ∙ append_assoc before.log first.0 second.0,
  join first.0 second.0 first.2 second.2,
)

-- ---- one reader

module _ (tree : Tree) (config : Config) (count : ℕ) (piece : List FileId) where
  abbrev path : ℕ → List ℕ
  path = file_path tree

  all_won : (seat : ClaimSeat) → HasBuilt seat → (reads : Reads) → ReadsWon tree (won seat) (numbers_in (published seat)) reads → ReadsPaths (map path (won seat)) reads
  all_won seat built reads (inl read) = subst (λ files. ReadsPaths (map path files) reads) built read
  all_won seat built reads (inr read) = read

  won_on : (old new : ClaimSeat) → HasBuilt old → Wins count piece old new → (one two : Reads) → ReadsWon tree (won old) (numbers_in (published old)) one → ReadsWon tree (newly_won old new) (numbers_in (newly_published old new)) two
      → ReadsWon tree (won new) (numbers_in (published new)) (one ++ two)
  won_on old new built wins one two first (inl read) =
      let all = reads_more (map path (won old)) (map path (numbers_in (newly_published old new))) one two (all_won old built one first) read in
      let files : won old ++ numbers_in (newly_published old new) ≡ numbers_in (published new) =
      ap (λ front. front ++ numbers_in (newly_published old new)) (sym built) ∙ sym (map-append (λ (pair : ℕ × ModRecord). pair.0) (published old) (newly_published old new)) ∙ ap numbers_in (sym wins.published_grows) in
      inl (subst (λ paths. ReadsPaths paths (one ++ two)) (sym (map-append path (won old) (numbers_in (newly_published old new))) ∙ ap (map path) files) all)
  won_on old new built wins one two first (inr read) =
      let all = reads_more (map path (won old)) (map path (newly_won old new)) one two (all_won old built one first) read in
      inr (subst (λ paths. ReadsPaths paths (one ++ two)) (sym (map-append path (won old) (newly_won old new)) ∙ ap (map path) (sym wins.won_grows)) all)

  read_more : (start : ReaderView) (worker : Worker) → HasRead tree start worker.before worker.old → HasBuilt worker.old → Wins count piece worker.old worker.new → WorksOn tree config worker → HasRead tree start worker.now worker.new
  read_more start worker read built wins works = record {
    no_stray = works.no_stray ∙ read.no_stray;
    reads = gains_on start worker.before worker.now (ReadsWon tree (won worker.old) (numbers_in (published worker.old))) (ReadsWon tree (newly_won worker.old worker.new) (numbers_in (newly_published worker.old worker.new))) (ReadsWon tree (won worker.new) (numbers_in (published worker.new)))
        (won_on worker.old worker.new built wins) read.reads works.reads;
  }

  -- ---- all readers

  module _ {R : Type 0} (view : R → ReaderView) (Follows : R → R → Type 0) where
    abbrev AllWork : List R → List R → List ClaimSeat → List ClaimSeat → List (List KeptManifest) → List (List KeptManifest) → Type 0
    AllWork olds news seats seats' caches caches' = AllByRecursion (WorksOn tree config) (workers_of view olds news seats seats' caches caches')

    pub each_more : (starts olds news : List R) (seats seats' : List ClaimSeat) (caches caches' : List (List KeptManifest)) → EachReads view tree starts olds seats → AllByRecursion HasBuilt seats → AllZip (Wins count piece) seats seats' → AllZip Follows olds news
        → drop (length seats) news ≡ drop (length seats) olds → length caches ≡ length seats → length caches' ≡ length caches → AllWork olds news seats seats' caches caches' → EachReads view tree starts news seats'
    each_more starts olds news [] [] caches caches' each built wins follow others many many' work = subst (λ news. EachReads view tree starts news []) (sym others) each
    each_more starts olds news [] (seat' ∷ seats') caches caches' each built wins follow others many many' work = absurd wins
    each_more starts olds news (seat ∷ seats) [] caches caches' each built wins follow others many many' work = absurd wins
    each_more [] [] news (seat ∷ seats) (seat' ∷ seats') caches caches' each built wins follow others many many' work = absurd each
    each_more [] (old ∷ olds) news (seat ∷ seats) (seat' ∷ seats') caches caches' each built wins follow others many many' work = absurd each
    each_more (start ∷ starts) [] news (seat ∷ seats) (seat' ∷ seats') caches caches' each built wins follow others many many' work = absurd each
    each_more (start ∷ starts) (old ∷ olds) [] (seat ∷ seats) (seat' ∷ seats') caches caches' each built wins follow others many many' work = absurd follow
    each_more (start ∷ starts) (old ∷ olds) (new ∷ news) (seat ∷ seats) (seat' ∷ seats') [] caches' each built wins follow others many many' work = absurd (omega (arith, many))
    each_more (start ∷ starts) (old ∷ olds) (new ∷ news) (seat ∷ seats) (seat' ∷ seats') (cache ∷ caches) [] each built wins follow others many many' work = absurd (omega (arith, many'))
    each_more (start ∷ starts) (old ∷ olds) (new ∷ news) (seat ∷ seats) (seat' ∷ seats') (cache ∷ caches) (cache' ∷ caches') each built wins follow others many many' work = (
      read_more (view start) (record { before = view old; now = view new; old = seat; new = seat'; cache = cache; cache' = cache' }) each.0 built.0 wins.0 work.0,
      each_more starts olds news seats seats' caches caches' each.1 built.1 wins.1 follow.1 others (omega (arith, many)) (omega (arith, many')) work.1,
    )

    pub caches_true : (olds news : List R) (seats seats' : List ClaimSeat) (caches caches' : List (List KeptManifest)) → AllZip (Wins count piece) seats seats' → AllZip Follows olds news → length seats ≤ length olds → length caches ≡ length seats → length caches' ≡ length caches
        → AllWork olds news seats seats' caches caches' → AllByRecursion (AreTrue tree) caches → AllByRecursion (AreTrue tree) caches'
    caches_true olds news [] [] [] [] wins follow enough many many' work true = tt
    caches_true olds news [] [] [] (cache' ∷ caches') wins follow enough many many' work true = absurd (omega (arith, many'))
    caches_true olds news [] [] (cache ∷ caches) caches' wins follow enough many many' work true = absurd (omega (arith, many))
    caches_true olds news [] (seat' ∷ seats') caches caches' wins follow enough many many' work true = absurd wins
    caches_true olds news (seat ∷ seats) [] caches caches' wins follow enough many many' work true = absurd wins
    caches_true [] news (seat ∷ seats) (seat' ∷ seats') caches caches' wins follow enough many many' work true = absurd (omega (arith, enough))
    caches_true (old ∷ olds) [] (seat ∷ seats) (seat' ∷ seats') caches caches' wins follow enough many many' work true = absurd follow
    caches_true (old ∷ olds) (new ∷ news) (seat ∷ seats) (seat' ∷ seats') [] caches' wins follow enough many many' work true = absurd (omega (arith, many))
    caches_true (old ∷ olds) (new ∷ news) (seat ∷ seats) (seat' ∷ seats') (cache ∷ caches) [] wins follow enough many many' work true = absurd (omega (arith, many'))
    caches_true (old ∷ olds) (new ∷ news) (seat ∷ seats) (seat' ∷ seats') (cache ∷ caches) (cache' ∷ caches') wins follow enough many many' work true = (
      work.0.cache true.0,
      caches_true olds news seats seats' caches caches' wins.1 follow.1 (omega (arith, enough)) (omega (arith, many)) (omega (arith, many')) work.1 true.1,
    )

    pub records_true : (readings : Readings) → AreReadings readings → (olds news : List R) (seats seats' : List ClaimSeat) (caches caches' : List (List KeptManifest)) → AllZip (Wins count piece) seats seats' → AllZip Follows olds news → length seats ≤ length olds → length caches ≡ length seats → length caches' ≡ length caches
        → AllWork olds news seats seats' caches caches' → AllByRecursion (AreTrue tree) caches → AllZip (λ old new. AllByRecursion (λ (pair : ℕ × ModRecord). pair.1 ≡ record_of readings tree config pair.0) (newly_published old new)) seats seats'
    records_true readings are olds news [] [] caches caches' wins follow enough many many' work true = tt
    records_true readings are olds news [] (seat' ∷ seats') caches caches' wins follow enough many many' work true = absurd wins
    records_true readings are olds news (seat ∷ seats) [] caches caches' wins follow enough many many' work true = absurd wins
    records_true readings are [] news (seat ∷ seats) (seat' ∷ seats') caches caches' wins follow enough many many' work true = absurd (omega (arith, enough))
    records_true readings are (old ∷ olds) [] (seat ∷ seats) (seat' ∷ seats') caches caches' wins follow enough many many' work true = absurd follow
    records_true readings are (old ∷ olds) (new ∷ news) (seat ∷ seats) (seat' ∷ seats') [] caches' wins follow enough many many' work true = absurd (omega (arith, many))
    records_true readings are (old ∷ olds) (new ∷ news) (seat ∷ seats) (seat' ∷ seats') (cache ∷ caches) [] wins follow enough many many' work true = absurd (omega (arith, many'))
    records_true readings are (old ∷ olds) (new ∷ news) (seat ∷ seats) (seat' ∷ seats') (cache ∷ caches) (cache' ∷ caches') wins follow enough many many' work true = (
      work.0.records true.0 readings are,
      records_true readings are olds news seats seats' caches caches' wins.1 follow.1 (omega (arith, enough)) (omega (arith, many)) (omega (arith, many')) work.1 true.1,
    )

-- ---- at the start

module _ {R : Type 0} (view : R → ReaderView) (tree : Tree) where
  pub none_read : (reader : R) → HasReadNone (view reader) (view reader)
  none_read reader = record { no_stray = refl; reads = gains_none (view reader) (ReadsPaths []) reads_none }

  new_read : (reader : R) (seat : ClaimSeat) → lists_of seat ≡ empty_lists → HasRead tree (view reader) (view reader) seat
  new_read reader seat new = record {
    no_stray = refl;
    reads = gains_none (view reader) (ReadsWon tree (won seat) (numbers_in (published seat)))
        (subst (λ (lists : Lists ModRecord). ReadsWon tree lists.won (numbers_in lists.published) []) (sym new) (inr reads_none));
  }

  pub each_new : (readers : List R) (seats : List ClaimSeat) → length seats ≤ length readers → AllByRecursion (λ (seat : ClaimSeat). lists_of seat ≡ empty_lists) seats → EachReads view tree readers readers seats
  each_new [] [] enough new = tt
  each_new [] (seat ∷ seats) enough new = absurd (omega (arith, enough))
  each_new (reader ∷ readers) [] enough new = (none_read reader, each_new readers [] (omega arith) tt)
  each_new (reader ∷ readers) (seat ∷ seats) enough new = (new_read reader seat new.0, each_new readers seats (omega (arith, enough)) new.1)

  -- ---- behind what reads no module

  read_behind : (before between now : ReaderView) (seat : ClaimSeat) → HasReadNone before between → HasRead tree between now seat → HasRead tree before now seat
  read_behind before between now seat none read = record {
    no_stray = read.no_stray ∙ none.no_stray;
    reads = gains_on before between now (ReadsPaths []) (ReadsWon tree (won seat) (numbers_in (published seat))) (ReadsWon tree (won seat) (numbers_in (published seat))) join none.reads read.reads;
  }
    where
      join : (one two : Reads) → ReadsPaths [] one → ReadsWon tree (won seat) (numbers_in (published seat)) two → ReadsWon tree (won seat) (numbers_in (published seat)) (one ++ two)
      join one two none (inl read) = inl (reads_more [] (map (file_path tree) (numbers_in (published seat))) one two none read)
      join one two none (inr read) = inr (reads_more [] (map (file_path tree) (won seat)) one two none read)

  none_behind : (before between now : ReaderView) → HasReadNone before between → HasReadNone between now → HasReadNone before now
  none_behind before between now none more = record {
    no_stray = more.no_stray ∙ none.no_stray;
    reads = gains_on before between now (ReadsPaths []) (ReadsPaths []) (ReadsPaths []) (λ one two first second. reads_more [] [] one two first second) none.reads more.reads;
  }

  pub each_behind : (olds betweens news : List R) (seats : List ClaimSeat) → AreReadNone view olds betweens → EachReads view tree betweens news seats → EachReads view tree olds news seats
  each_behind [] [] [] [] none each = tt
  each_behind [] [] [] (seat ∷ seats) none each = absurd each
  each_behind [] [] (new ∷ news) seats none each = absurd each
  each_behind [] (between ∷ betweens) news seats none each = absurd none
  each_behind (old ∷ olds) [] news seats none each = absurd none
  each_behind (old ∷ olds) (between ∷ betweens) [] seats none each = absurd each
  each_behind (old ∷ olds) (between ∷ betweens) (new ∷ news) [] none each = (none_behind (view old) (view between) (view new) none.0 each.0, each_behind olds betweens news [] none.1 each.1)
  each_behind (old ∷ olds) (between ∷ betweens) (new ∷ news) (seat ∷ seats) none each = (read_behind (view old) (view between) (view new) seat none.0 each.0, each_behind olds betweens news seats none.1 each.1)

  -- ---- at the end

  pub no_strays : (olds news : List R) (seats : List ClaimSeat) → EachReads view tree olds news seats → NoStrays view olds news
  no_strays [] [] seats each = tt
  no_strays [] (new ∷ news) seats each = absurd each
  no_strays (old ∷ olds) [] seats each = absurd each
  no_strays (old ∷ olds) (new ∷ news) [] each = (each.0.no_stray, no_strays olds news [] each.1)
  no_strays (old ∷ olds) (new ∷ news) (seat ∷ seats) each = (each.0.no_stray, no_strays olds news seats each.1)

  -- the reads of all readers
  pub record AreRead (olds news : List R) (seats : List ClaimSeat) : Type 0 where
    pub reads : Reads
    pub gain : LogsGain view olds news reads
    pub owns : List (List ℕ)
    pub own : AllZip IsOwn owns seats
    pub are : ReadsPaths (map (file_path tree) (flat_map (λ own. own) owns)) reads

  own_of : (seat : ClaimSeat) (reads : Reads) → ReadsWon tree (won seat) (numbers_in (published seat)) reads → (own : List ℕ) × IsOwn own seat × ReadsPaths (map (file_path tree) own) reads
  own_of seat reads (inl read) = (numbers_in (published seat), inl refl, read)
  own_of seat reads (inr read) = (won seat, inr refl, read)

  pub all_read : (olds news : List R) (seats : List ClaimSeat) → EachReads view tree olds news seats → AreRead olds news seats
  all_read [] [] [] each = record { reads = []; gain = refl; owns = []; own = tt; are = reads_none }
  all_read [] [] (seat ∷ seats) each = absurd each
  all_read [] (new ∷ news) seats each = absurd each
  all_read (old ∷ olds) [] seats each = absurd each
  all_read (old ∷ olds) (new ∷ news) [] each =
      let rest = all_read olds news [] each.1 in
      let one = each.0.reads in
      record {
        reads = one.0 ++ rest.reads;
        gain = (one.0, rest.reads, one.1, refl, rest.gain);
        owns = rest.owns;
        own = rest.own;
        are = reads_more [] (map (file_path tree) (flat_map (λ own. own) rest.owns)) one.0 rest.reads one.2 rest.are;
      }
  all_read (old ∷ olds) (new ∷ news) (seat ∷ seats) each =
      let rest = all_read olds news seats each.1 in
      let one = each.0.reads in
      let own = own_of seat one.0 one.2 in
      record {
        reads = one.0 ++ rest.reads;
        gain = (one.0, rest.reads, one.1, refl, rest.gain);
        owns = own.0 ∷ rest.owns;
        own = (own.1, rest.own);
        are = subst (λ paths. ReadsPaths paths (one.0 ++ rest.reads)) (sym (map-append (file_path tree) own.0 (flat_map (λ own. own) rest.owns)))
            (reads_more (map (file_path tree) own.0) (map (file_path tree) (flat_map (λ own. own) rest.owns)) one.0 rest.reads own.2 rest.are);
      }
