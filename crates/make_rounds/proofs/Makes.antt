-- What growing a graph comes to, from its beginning to its end.
use Rattle.std.proofs.Common.{◌≡◌, ℕ, ◌<◌, ◌≤◌, List, [], ◌∷◌, ◌++◌, length, map, refl, sym, ap, subst, ◌∙◌, ◌⊎◌, inl, inr, arith}
use Rattle.std.proofs.lemmas.List.{map-append}
use Rattle.std.proofs.lemmas.List.Sorted.{IsPermutation-map, IsPermutation-sym, IsPermutation-trans}
use Rattle.std.specs.List.{AllByRecursion}
use Rattle.std.specs.Prelude.{IsPermutation, Result, Ok, Err, IfErr, IfOk, IsOk, OnOk, Option, flat_map}
use Rattle.build_round.specs.Readers.{LogsGain, NoStrays}
use Rattle.claim_board.specs.Claims.{AreSeatsFrom}
use Rattle.claim_board.specs.Closing.{Closes}
use Rattle.claim_board.specs.declared.board.ClaimBoard.{ClaimBoard}
use Rattle.claim_board.specs.declared.seat.ClaimSeat.{ClaimSeat}
use Rattle.fault_place.specs.Limit.{number_of}
use Rattle.fault_place.specs.declared.fault.Fault.{Fault}
use Rattle.fault_place.specs.declared.limit.Limit.{Limit}
use Rattle.fault_place.specs.declared.limit.Limit.TheVariants.{Modules, Blocks}
use Rattle.pack_util.specs.declared.number.FileId.{FileId}
use Rattle.graph_types.specs.Fits.{Fits}
use Rattle.graph_types.specs.Graphs.{IsGraphOf}
use Rattle.graph_types.specs.declared.config.Config.{Config}
use Rattle.graph_types.specs.declared.record.ModRecord.{ModRecord}
use Rattle.module_build.proofs.Gains.{reads_more, reads_none}
use Rattle.module_build.specs.Readings.{AreReadings, Readings}
use Rattle.module_build.specs.Reads.{ReadsPaths, file_path}
use Rattle.module_build.specs.Record.{record_of}
use Rattle.outside.specs.Tree.{Tree}
use Rattle.outside.specs.Views.{ReaderView}
use Rattle.outside.specs.declared.entry.Why.{Why}
use Rattle.outside.specs.declared.outside_end.OutsideEnd.{OutsideEnd}
use Rattle.outside.specs.declared.outside_end.OutsideEnd.TheVariants as outside_ends
use Rattle.make_rounds.specs.Cause.{read_end}
use Rattle.make_rounds.specs.Counts.{AreReached, ExceedsReached, counted}
use Rattle.make_rounds.specs.Entries.{files_by, root_naming}
use Rattle.make_rounds.specs.Graph.{AnswersGraph, ReadsOnce, ReadsReached, first_files}
use Rattle.make_rounds.specs.Make.{AreOwned, EachReadsOwn, Makes}
use Rattle.make_rounds.specs.declared.finding.Start.{Start}
use Rattle.make_rounds.specs.declared.grown.Grown.{Grown}
use Rattle.make_rounds.specs.declared.make_end.MakeEnd.{MakeEnd}
use Rattle.make_rounds.specs.declared.make_end.MakeEnd.TheVariants as ends
use Rattle.make_rounds.specs.inner.Answered.{numbers_of}
use Rattle.make_rounds.specs.inner.Closed.{EndsFrom, IsGraphFrom, IsGrownFrom, present}
use Rattle.make_rounds.specs.inner.Growing.{EachReads, EndsGrowing, Grows, HasWon, IsFinished}
use Rattle.make_rounds.specs.inner.Starting.{AreReadNone, StartsOn}
use Rattle.make_rounds.proofs.Graphs.{AreGathered, graph_is}
use Rattle.make_rounds.proofs.Fits.{fits}
use Rattle.make_rounds.proofs.Members.{are_owned, exceeds, gathered, none_exceeded, places_of, records_are, simple_records}
use Rattle.make_rounds.proofs.Orders.{distinct_none}
use Rattle.make_rounds.proofs.Owning.{each_own, members_read, owns_distinct, owns_held}
use Rattle.make_rounds.proofs.Reading.{AreRead, all_read, each_behind, no_strays}
use Rattle.make_rounds.proofs.Records.{file_is, path_is}

-- the paths of files are those of their records
paths_of : (readings : Readings) (tree : Tree) (config : Config) (files : List ℕ) → map (λ (rec : ModRecord). rec.path) (map (record_of readings tree config) files) ≡ map (file_path tree) files
paths_of readings tree config [] = refl
paths_of readings tree config (file ∷ files) = λ i. path_is readings tree config file i ∷ paths_of readings tree config files i

pub numbers_of_all : (entries : List (List FileId)) → numbers_of (flat_map (λ (entry : List FileId). entry) entries) ≡ flat_map (λ (files : List ℕ). files) (map numbers_of entries)
numbers_of_all [] = refl
numbers_of_all (entry ∷ entries) =
    map-append (λ (file : FileId). file.0) entry (flat_map (λ (entry : List FileId). entry) entries) ∙ ap (λ rest. numbers_of entry ++ rest) (numbers_of_all entries)

of_ok : {T E : Type 0} (result : Result T E) (P : Type 0) → IsOk result → OnOk result P → P
of_ok (Ok value) P ok fact = fact
of_ok (Err end) P ok fact = cc

module _ {R : Type 0} (view : R → ReaderView) (tree : Tree) (config : Config) (path : List ℕ) where
  abbrev Reads : Type 0
  Reads = List (List ℕ × Why)

  -- ---- nothing was read as a module

  none_stray : (olds news : List R) → AreReadNone view olds news → NoStrays view olds news
  none_stray [] [] read = tt
  none_stray [] (new ∷ news) read = absurd read
  none_stray (old ∷ olds) [] read = absurd read
  none_stray (old ∷ olds) (new ∷ news) read = (read.0.no_stray, none_stray olds news read.1)

  none_gained : (olds news : List R) → AreReadNone view olds news → (reads : Reads) × LogsGain view olds news reads × ReadsPaths [] reads
  none_gained [] [] read = ([], refl, reads_none)
  none_gained [] (new ∷ news) read = absurd read
  none_gained (old ∷ olds) [] read = absurd read
  none_gained (old ∷ olds) (new ∷ news) read =
      let rest = none_gained olds news read.1 in
      let one = read.0.reads in
      (one.0 ++ rest.0, (one.0, rest.0, one.1, refl, rest.1), reads_more [] [] one.0 rest.0 one.2 rest.2)

  nothing_read : (readings : Readings) (reads : Reads) → ReadsPaths [] reads → ReadsReached readings tree config reads
  nothing_read readings reads none = record { files = []; distinct = distinct_none; are = none; reached = λ set all closed. tt }

  begun_answer : (readings : Readings) (end : OutsideEnd) → AnswersGraph readings tree config path (Err (read_end end))
  begun_answer readings outside_ends.Failed = tt
  begun_answer readings outside_ends.NoMemory = tt

  begun_reads : (readings : Readings) (end : OutsideEnd) (reads : Reads) → ReadsPaths [] reads → ReadsOnce readings tree config (Err (read_end end)) reads
  begun_reads readings outside_ends.Failed reads none = nothing_read readings reads none
  begun_reads readings outside_ends.NoMemory reads none = none.no_config

  pub begun_end : (olds news : List R) (end : OutsideEnd) (result : Result Grown MakeEnd) → result ≡ Err (read_end end) → AreReadNone view olds news → Makes view tree config path olds news result
  begun_end olds news end result is read = subst (Makes view tree config path olds news) (sym is) (record {
    no_stray = none_stray olds news read;
    answer = λ readings are. begun_answer readings end;
    reads = λ readings are. (let all = none_gained olds news read in (all.0, all.1, begun_reads readings end all.0 all.2));
    owners = tt;
  })

  -- ---- workers have grown a graph

  module _ {T : Type 0} (count : ℕ) (olds betweens news : List R) (seats : List ClaimSeat) (start : Start) (end : Result T MakeEnd)
      (first_is : start.first.items ≡ flat_map (λ (entry : List FileId). entry) start.entries.files.items)
      (begun : AreReadNone view olds betweens) (on : StartsOn tree config path start)
      (grows : Grows view tree config (numbers_of start.first.items) betweens news seats end)
      (holds : AllByRecursion (HasWon count) seats) (finished : OnOk end (IsFinished (numbers_of start.first.items) seats)) where
    abbrev first : List ℕ
    first = numbers_of start.first.items

    numbers_are : first ≡ flat_map (λ (files : List ℕ). files) (map numbers_of start.entries.files.items)
    numbers_are = ap numbers_of first_is ∙ numbers_of_all start.entries.files.items

    same : (readings : Readings) → AreReadings readings → first ≡ first_files readings tree config
    same readings are = numbers_are ∙ ap (flat_map (λ (files : List ℕ). files)) (on.found readings are).files_are

    each : EachReads view tree olds news seats
    each = each_behind view tree olds betweens news seats begun grows.reads

    read : AreRead view tree olds news seats
    read = all_read view tree olds news seats each

    -- no file was read twice, where the board was closed
    module _ (owners : List (Option ℕ)) (slots : List (Option ModRecord)) (closes : Closes count seats owners slots) where
      some_read : (readings : Readings) → AreReadings readings → ReadsReached readings tree config read.reads
      some_read readings are = record {
        files = flat_map (λ (own : List ℕ). own) read.owns;
        distinct = owns_distinct count read.owns seats read.own holds closes.once;
        are = read.are;
        reached = subst (λ first. AreReached (record_of readings tree config) first (flat_map (λ (own : List ℕ). own) read.owns)) (same readings are)
            (λ set all closed. owns_held count set read.owns seats read.own holds ((grows.made readings are).reached set all closed));
      }

      end_answer : (readings : Readings) → AreReadings readings → (answer : MakeEnd) → EndsGrowing (record_of readings tree config) first answer → AnswersGraph readings tree config path (Err answer)
      end_answer readings are ends.ReadFault exceeded = tt
      end_answer readings are (ends.Limit limit) exceeded = subst (λ first. ExceedsReached (record_of readings tree config) first limit) (same readings are) exceeded
      end_answer readings are ends.NoMemory exceeded = tt

      end_reads : (readings : Readings) → AreReadings readings → (answer : MakeEnd) → ReadsOnce readings tree config (Err answer) read.reads
      end_reads readings are ends.ReadFault = some_read readings are
      end_reads readings are (ends.Limit limit) = some_read readings are
      end_reads readings are ends.NoMemory = read.are.no_config

      made_end : (answer : MakeEnd) → ((readings : Readings) → AreReadings readings → EndsGrowing (record_of readings tree config) first answer) → Makes view tree config path olds news (Err answer)
      made_end answer exceeded = record {
        no_stray = no_strays view tree olds news seats each;
        answer = λ readings are. end_answer readings are answer (exceeded readings are);
        reads = λ readings are. (read.reads, read.gain, end_reads readings are answer);
        owners = tt;
      }

      ends_as : (answer : MakeEnd) → end ≡ Err answer → (readings : Readings) → AreReadings readings → EndsGrowing (record_of readings tree config) first answer
      ends_as answer is readings are = subst (λ end. IfErr end (EndsGrowing (record_of readings tree config) first)) is (grows.ends readings are)

      finished_if : IsOk end → IsFinished first seats
      finished_if ok = of_ok end (IsFinished first seats) ok finished

      limit_end : (limit : Limit) → IsOk end → number_of limit < counted (present slots) limit → Makes view tree config path olds news (Err (ends.Limit limit))
      limit_end limit ok more = made_end (ends.Limit limit) (λ readings are.
          exceeds count seats owners slots closes holds (finished_if ok).built (record_of readings tree config) first (grows.made readings are) limit more)

      made_grown : (grown : Grown) → owners ≡ grown.owners → IsOk end → (board : ClaimBoard) → AreSeatsFrom board 0 seats → ((limit : Limit) → counted (present slots) limit ≤ number_of limit)
          → IsGraphFrom (present slots) start.entries.files.items start.entries.faults.items grown.graph → Makes view tree config path olds news (Ok grown)
      made_grown grown owners_are ok board are_seats allowed from = record {
        no_stray = no_strays view tree olds news seats each;
        answer = λ readings are.
            let record_of = record_of readings tree config in
            let naming = root_naming readings tree config in
            let done = finished_if ok in
            let made = grows.made readings are in
            let all = gathered count seats owners slots closes holds done.built record_of first made done.met in
            let is = graph_is record_of (file_is readings tree config) start.entries.files.items start.entries.faults.items (present slots) grown.graph (subst (λ first. AreGathered record_of first (present slots)) numbers_are all) from in (
              subst (λ faults. IsGraphOf record_of (files_by naming config) faults grown.graph) (on.found readings are).faults_are
                  (subst (λ files. IsGraphOf record_of files start.entries.faults.items grown.graph) (on.found readings are).files_are is),
              subst (λ first. (limit : Limit) → ¬ ExceedsReached record_of first limit) (same readings are) (none_exceeded count seats owners slots closes holds done.built record_of first made done.met allowed),
            );
        reads = λ readings are. (
          read.reads,
          read.gain,
          (let done = finished_if ok in (
            map (file_path tree) (flat_map (λ (own : List ℕ). own) read.owns),
            IsPermutation-trans (map (λ (rec : ModRecord). rec.path) grown.graph.records) (map (λ (rec : ModRecord). rec.path) (present slots)) (map (file_path tree) (flat_map (λ (own : List ℕ). own) read.owns))
                (IsPermutation-map (λ (rec : ModRecord). rec.path) grown.graph.records (present slots) (IsPermutation-sym (present slots) grown.graph.records from.same))
                (subst (λ paths. IsPermutation paths (map (file_path tree) (flat_map (λ (own : List ℕ). own) read.owns)))
                (sym (ap (map (λ (rec : ModRecord). rec.path)) (records_are count seats owners slots closes holds done.built (record_of readings tree config) first (grows.made readings are)) ∙ paths_of readings tree config (places_of 0 slots)))
                (IsPermutation-map (file_path tree) (places_of 0 slots) (flat_map (λ (own : List ℕ). own) read.owns) (members_read count seats owners slots closes holds done.built board are_seats read.owns read.own))),
            read.are,
          )),
        );
        owners = subst (λ owners. EachReadsOwn view tree owners 0 olds news) owners_are
            (each_own count seats owners slots closes holds (finished_if ok).built board are_seats view tree 0 olds news seats each are_seats (λ seat there. there) (finished_if ok).built (omega arith));
      }

    no_memory : Makes view tree config path olds news (Err ends.NoMemory)
    no_memory = record {
      no_stray = no_strays view tree olds news seats each;
      answer = λ readings are. tt;
      reads = λ readings are. (read.reads, read.gain, read.are.no_config);
      owners = tt;
    }

    pub ends_made : (answer : MakeEnd) → EndsFrom count seats end answer → Makes view tree config path olds news (Err answer)
    ends_made answer (inl is) = subst (λ answer. Makes view tree config path olds news (Err answer)) (sym is) no_memory
    ends_made answer (inr closed) = by_why closed.why
      where
        by_why : (end ≡ Err answer) ⊎ (IsOk end × ((limit : Limit) × (answer ≡ ends.Limit limit) × (number_of limit < counted (present closed.slots) limit))) → Makes view tree config path olds news (Err answer)
        by_why (inl is) = made_end closed.owners closed.slots closed.closes answer (ends_as closed.owners closed.slots closed.closes answer is)
        by_why (inr over) = subst (λ answer. Makes view tree config path olds news (Err answer)) (sym over.1.1) (limit_end closed.owners closed.slots closed.closes over.1.0 over.0 over.1.2)

    pub grown_made : (grown : Grown) → IsOk end → (board : ClaimBoard) → AreSeatsFrom board 0 seats → IsGrownFrom count seats start.entries.files.items start.entries.faults.items grown → Makes view tree config path olds news (Ok grown)
    grown_made grown ok board are from = made_grown grown.owners from.slots from.closes grown refl ok board are from.allowed from.from

    pub all_made : (board : ClaimBoard) → AreSeatsFrom board 0 seats → (result : Result Grown MakeEnd) → (IsOk result → IsOk end) → IfOk result (IsGrownFrom count seats start.entries.files.items start.entries.faults.items) → IfErr result (EndsFrom count seats end) → Makes view tree config path olds news result
    all_made board are (Ok grown) ended from why = grown_made grown (ended refl) board are from
    all_made board are (Err answer) ended from why = ends_made answer why

-- ---- whatever the readers tell

module _ {T : Type 0} (count : ℕ) (seats : List ClaimSeat) (end : Result T MakeEnd) (first : List ℕ) (entries : List (List FileId)) (faults : List Fault) (holds : AllByRecursion (HasWon count) seats) (finished : OnOk end (IsFinished first seats)) where
  pub all_fit : (result : Result Grown MakeEnd) → IfOk result (IsGrownFrom count seats entries faults) → IfOk result (λ (grown : Grown). Fits (length entries) grown.graph)
  all_fit (Ok grown) from =
      fits count (present from.slots) entries faults grown.graph
      (record { each = simple_records count seats grown.owners from.slots from.closes holds; few = from.allowed Modules; few_blocks = from.allowed Blocks }) from.from
  all_fit (Err answer) from = tt

  pub all_owned : (board : ClaimBoard) → AreSeatsFrom board 0 seats → (result : Result Grown MakeEnd) → (IsOk result → IsOk end) → IfOk result (IsGrownFrom count seats entries faults) → IfOk result (λ (grown : Grown). AreOwned count (length seats) grown.graph grown.owners)
  all_owned board are (Ok grown) ended from =
      are_owned count seats grown.owners from.slots from.closes holds (of_ok end (IsFinished first seats) (ended refl) finished).built board are grown.graph from.from.same
  all_owned board are (Err answer) ended from = tt

-- a failed read is answered only where the rounds ended with one
read_failed : {T : Type 0} (count : ℕ) (seats : List ClaimSeat) (end : Result T MakeEnd) → EndsFrom count seats end ends.ReadFault → end ≡ Err ends.ReadFault
read_failed count seats end (inl is) = cc
read_failed count seats end (inr closed) = by_why closed.why
  where
    by_why : (end ≡ Err ends.ReadFault) ⊎ (IsOk end × ((limit : Limit) × (ends.ReadFault ≡ ends.Limit limit) × (number_of limit < counted (present closed.slots) limit))) → end ≡ Err ends.ReadFault
    by_why (inl is) = is
    by_why (inr over) = (let never : ends.ReadFault ≡ ends.Limit over.1.0 = over.1.1 in cc)

pub failed_by : {T : Type 0} (count : ℕ) (seats : List ClaimSeat) (end : Result T MakeEnd) (result : Result Grown MakeEnd) → IfErr result (EndsFrom count seats end) → result ≡ Err ends.ReadFault → end ≡ Err ends.ReadFault
failed_by count seats end result why is = read_failed count seats end (subst (λ result. IfErr result (EndsFrom count seats end)) is why)
