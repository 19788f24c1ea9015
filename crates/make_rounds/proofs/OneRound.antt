-- One round after another: what stays true, and what is so where the work ends.
use Rattle.std.proofs.Common.{◌≡◌, ℕ, ◌<◌, ◌≤◌, Bool, List, [], ◌++◌, length, drop, sym, ap, subst, ◌∙◌, inl, arith}
use Rattle.std.specs.Cmp.Lexicographic.{slice_cmp}
use Rattle.std.specs.FinMap.Entries.{is_sorted}
use Rattle.std.specs.List.{AllByRecursion, AllZip}
use Rattle.std.specs.Ordering.{nat_cmp}
use Rattle.std.specs.Prelude.{Contains, IsTrue, Result, Err}
use Rattle.build_round.specs.Rounds.{IsDone, Wins, WorksOn, numbers_in, workers_of}
use Rattle.claim_board.specs.Claims.{lists_of, published, won}
use Rattle.claim_board.specs.Lists.{empty_lists}
use Rattle.claim_board.specs.declared.lists.Lists.{Lists}
use Rattle.claim_board.specs.declared.seat.ClaimSeat.{ClaimSeat}
use Rattle.fault_place.specs.declared.limit.Limit.{Limit}
use Rattle.pack_util.specs.declared.number.FileId.{FileId}
use Rattle.graph_types.specs.Modules.{file_id}
use Rattle.graph_types.specs.Reached.{HoldsAll}
use Rattle.graph_types.specs.declared.config.Config.{Config}
use Rattle.graph_types.specs.declared.record.ModRecord.{ModRecord}
use Rattle.module_build.specs.Readings.{AreReadings, Readings}
use Rattle.module_build.specs.Record.{record_of}
use Rattle.module_build.specs.Shape.{IsSimple}
use Rattle.outside.specs.Tree.{Tree}
use Rattle.outside.specs.Views.{ReaderView}
use Rattle.outside.specs.declared.outside_end.OutsideEnd.{OutsideEnd}
use Rattle.outside.specs.declared.outside_end.OutsideEnd.TheVariants as outside_ends
use Rattle.resolve_path.specs.Caches.{AreTrue}
use Rattle.resolve_path.specs.declared.kept.KeptManifest.{KeptManifest}
use Rattle.tree_listing.specs.Listing.{IsListingOf, Listed, length_at, lengths_of}
use Rattle.make_rounds.specs.Cause.{read_end}
use Rattle.make_rounds.specs.Counts.{AreReached, ExceedsReached}
use Rattle.make_rounds.specs.declared.found.Found.{Found}
use Rattle.make_rounds.specs.declared.make_end.MakeEnd.{MakeEnd}
use Rattle.make_rounds.specs.declared.make_end.MakeEnd.TheVariants as ends
use Rattle.make_rounds.specs.inner.Answered.{numbers_of}
use Rattle.make_rounds.specs.inner.Counting.{IsExceeded}
use Rattle.make_rounds.specs.inner.Found.{IsCounted, marked}
use Rattle.make_rounds.specs.inner.Growing.{AreGrowing, AreMade, AreMet, EachReads, EndsGrowing, Grows, HasBuilt, HasWon, IsMet}
use Rattle.make_rounds.proofs.Counting.{exceeded_by_records}
use Rattle.make_rounds.proofs.Lists.{all-from, all-in, all-kept, all-left}
use Rattle.make_rounds.proofs.Members.{slot_within}
use Rattle.make_rounds.proofs.Orders.{distinct_none}
use Rattle.make_rounds.proofs.Reading.{caches_true, each_more, each_new, records_true}
use Rattle.make_rounds.proofs.Records.{size_is}
use Rattle.make_rounds.proofs.Rounds.{AreRecords, here_reached, made_more, next_more}
use Rattle.make_rounds.proofs.Rows.{of_place, places_distinct}

-- ---- seats that know nothing yet

module _ (count : ℕ) (seat : ClaimSeat) (new : lists_of seat ≡ empty_lists) where
  won_none : won seat ≡ []
  won_none = ap (λ (lists : Lists ModRecord). lists.won) new

  published_none : published seat ≡ []
  published_none = ap (λ (lists : Lists ModRecord). lists.published) new

  new_won : HasWon count seat
  new_won = record {
    distinct = rw won_none distinct_none;
    within = subst (AllByRecursion (λ file. file < count)) (sym won_none) tt;
    in_order = ([], won_none ∙ ap (λ pairs. numbers_in pairs ++ []) (sym published_none));
    simple = subst (AllByRecursion (λ (pair : ℕ × ModRecord). IsSimple count (file_id pair.0) pair.1)) (sym published_none) tt;
  }

  new_built : HasBuilt seat
  new_built = ap numbers_in published_none ∙ sym won_none

pub all_new_won : (count : ℕ) (seats : List ClaimSeat) → AllByRecursion (λ (seat : ClaimSeat). lists_of seat ≡ empty_lists) seats → AllByRecursion (HasWon count) seats
all_new_won count seats new = all-kept (λ (seat : ClaimSeat). lists_of seat ≡ empty_lists) (HasWon count) (λ (seat : ClaimSeat) one. new_won count seat one) seats new

pub all_new_built : (seats : List ClaimSeat) → AllByRecursion (λ (seat : ClaimSeat). lists_of seat ≡ empty_lists) seats → AllByRecursion HasBuilt seats
all_new_built seats new = all-kept (λ (seat : ClaimSeat). lists_of seat ≡ empty_lists) HasBuilt (λ (seat : ClaimSeat) one. new_built 0 seat one) seats new

no_pair : {A : Type 0} (seats : List ClaimSeat) → AllByRecursion (λ (seat : ClaimSeat). lists_of seat ≡ empty_lists) seats → (seat : ClaimSeat) → Contains seats seat → (pair : ℕ × ModRecord) → Contains (published seat) pair → A
no_pair seats new seat among pair there =
    let none : published seat ≡ [] = published_none 0 seat (all-in (λ (seat : ClaimSeat). lists_of seat ≡ empty_lists) seats seat new among) in
    let held : Contains [] pair = subst (λ pairs. Contains pairs pair) none there in
    let within : held.0 < 0 = held.1 in
    absurd (omega arith)

pub met_new : (first : List ℕ) (seats : List ClaimSeat) → AllByRecursion (λ (seat : ClaimSeat). lists_of seat ≡ empty_lists) seats → AreMet first first seats
met_new first seats new = record {
  firsts = all-from (IsMet first seats) first (λ file there. inl there);
  targets = λ seat among file rec there. no_pair seats new seat among (file, rec) there;
}

made_new : (record_of : ℕ → ModRecord) (first : List ℕ) (seats : List ClaimSeat) → AllByRecursion (λ (seat : ClaimSeat). lists_of seat ≡ empty_lists) seats → AreMade record_of first seats
made_new record_of first seats new = record {
  records = λ seat among file rec there. no_pair seats new seat among (file, rec) there;
  reached = λ set all closed. all-kept (λ (seat : ClaimSeat). lists_of seat ≡ empty_lists) (λ (seat : ClaimSeat). HoldsAll set (won seat))
      (λ (seat : ClaimSeat) one. subst (HoldsAll set) (sym (won_none 0 seat one)) tt) seats new;
}

pub growing_new : {R : Type 0} (view : R → ReaderView) (tree : Tree) (config : Config) (first found : List ℕ) (readers : List R) (caches : List (List KeptManifest)) (seats : List ClaimSeat)
    → length seats ≤ length readers → AllByRecursion (λ (seat : ClaimSeat). lists_of seat ≡ empty_lists) seats → AllByRecursion (AreTrue tree) caches → ((set : ℕ → Bool) → HoldsAll set found)
    → AreGrowing view tree config first readers readers caches first found seats
growing_new view tree config first found readers caches seats enough new trusted none = record {
  trusted = trusted;
  reads = each_new view tree readers seats enough new;
  making = λ readings are. record { made = made_new (record_of readings tree config) first seats new; next = λ set all closed. all; counted = λ set all closed. none set };
}

-- ---- a limit that the counted files exceed

found_within : (row : List Bool) (file : ℕ) → Contains (marked row) file → file < length row
found_within row file there =
    let place = of_place (λ mark. mark) 0 row file there in
    let within = slot_within row place.at place.member place.there in
    omega (arith, within, place.is)

pub found_exceeds : (tree : Tree) (config : Config) (listing : Listed) (found : Found) → IsListingOf tree listing → IsTrue (is_sorted (slice_cmp nat_cmp) listing.files) → IsCounted listing.files found
    → (readings : Readings) (first : List ℕ) → AreReached (record_of readings tree config) first (marked found.marks) → (limit : Limit) → IsExceeded found.counts limit → ExceedsReached (record_of readings tree config) first limit
found_exceeds tree config listing found listed sorted counted readings first reached limit more =
    let files = marked found.marks in
    let sizes : AllByRecursion (λ file. (record_of readings tree config file).size ≡ length_at listing.files file) files =
    all-from (λ file. (record_of readings tree config file).size ≡ length_at listing.files file) files (λ file there.
    let within : file < length (lengths_of tree) = subst (λ files. file < length files) listed.files (subst (λ n. file < n) counted.as_many (found_within found.marks file there)) in
    size_is tree (subst (λ files. IsTrue (is_sorted (slice_cmp nat_cmp) files)) listed.files sorted) file within readings config ∙ ap (λ files. length_at files file) (sym listed.files)) in
    record {
      files = files;
      distinct = places_distinct (λ mark. mark) 0 found.marks;
      reached = reached;
      more = exceeded_by_records listing.files (record_of readings tree config) files sizes limit (subst (λ counts. IsExceeded counts limit) counted.counts more);
    }

-- ---- a round

module _ {R : Type 0} (view : R → ReaderView) (Follows : R → R → Type 0) (tree : Tree) (config : Config) (first : List ℕ) (count : ℕ) (frontier piece later : List FileId) (split : frontier ≡ piece ++ later) (all_within : AllByRecursion (λ (file : FileId). file.0 < count) frontier)
    (starts olds news : List R) (seats seats' : List ClaimSeat) (caches caches' : List (List KeptManifest)) (found : List ℕ)
    (growing : AreGrowing view tree config first starts olds caches (numbers_of frontier) found seats) where
  within : AllByRecursion (λ (file : FileId). file.0 < count) piece
  within = all-left (λ (file : FileId). file.0 < count) piece later (subst (AllByRecursion (λ (file : FileId). file.0 < count)) split all_within)

  next_reached : (readings : Readings) → AreReadings readings → AreReached (record_of readings tree config) first (numbers_of (piece ++ later))
  next_reached readings are = subst (λ files. AreReached (record_of readings tree config) first (numbers_of files)) split (growing.making readings are).next

  -- the files of the frontier were counted
  pub counted_more : (found' : List ℕ) → ((set : ℕ → Bool) → HoldsAll set found → HoldsAll set (numbers_of piece) → HoldsAll set found') → (readings : Readings) → AreReadings readings → AreReached (record_of readings tree config) first found'
  counted_more found' among readings are = λ set all closed.
      among set ((growing.making readings are).counted set all closed) (here_reached (record_of readings tree config) first piece later (next_reached readings are) set all closed)

  -- and exceed a limit
  pub limit_end : {T : Type 0} (limit : Limit) → ((readings : Readings) → AreReadings readings → ExceedsReached (record_of readings tree config) first limit) → (result : Result T MakeEnd) → result ≡ Err (ends.Limit limit) → Grows view tree config first starts olds seats result
  limit_end limit exceeded result is = subst (Grows view tree config first starts olds seats) (sym is) (record {
    reads = growing.reads;
    made = λ readings are. (growing.making readings are).made;
    ends = exceeded;
  })

  module _ (built : AllByRecursion HasBuilt seats) (wins : AllZip (Wins count piece) seats seats') (follow : AllZip Follows olds news) (others : drop (length seats) news ≡ drop (length seats) olds)
      (enough : length seats ≤ length olds) (many : length caches ≡ length seats) (many' : length caches' ≡ length caches) (work : AllByRecursion (WorksOn tree config) (workers_of view olds news seats seats' caches caches')) where
    reads_on : EachReads view tree starts news seats'
    reads_on = each_more tree config count piece view Follows starts olds news seats seats' caches caches' growing.reads built wins follow others many many' work

    records_on : (readings : Readings) → AreReadings readings → AllZip (AreRecords (record_of readings tree config)) seats seats'
    records_on readings are = records_true tree config count piece view Follows readings are olds news seats seats' caches caches' wins follow enough many many' work growing.trusted

    made_on : (readings : Readings) → AreReadings readings → AreMade (record_of readings tree config) first seats'
    made_on readings are =
        made_more count piece within (record_of readings tree config) first seats seats' wins (growing.making readings are).made (here_reached (record_of readings tree config) first piece later (next_reached readings are)) (records_on readings are)

    no_limit : (record_of : ℕ → ModRecord) (end : OutsideEnd) → EndsGrowing record_of first (read_end end)
    no_limit record_of outside_ends.Failed = tt
    no_limit record_of outside_ends.NoMemory = tt

    -- the round failed, or no memory was left behind it
    pub round_end : {T : Type 0} (end : OutsideEnd) (result : Result T MakeEnd) → result ≡ Err (read_end end) → Grows view tree config first starts news seats' result
    round_end end result is = subst (Grows view tree config first starts news seats') (sym is) (record {
      reads = reads_on;
      made = made_on;
      ends = λ readings are. no_limit (record_of readings tree config) end;
    })

    pub round_on : (answer : List FileId) (found' : List ℕ) → IsDone count piece seats seats' answer → ((set : ℕ → Bool) → HoldsAll set found → HoldsAll set (numbers_of piece) → HoldsAll set found') → AreGrowing view tree config first starts news caches' (numbers_of (later ++ answer)) found' seats'
    round_on answer found' done among = record {
      trusted = caches_true tree config count piece view Follows olds news seats seats' caches caches' wins follow enough many many' work growing.trusted;
      reads = reads_on;
      making = λ readings are. record {
        made = made_on readings are;
        next = next_more count piece within (record_of readings tree config) first seats seats' wins later answer done (next_reached readings are) (records_on readings are);
        counted = counted_more found' among readings are;
      };
    }

-- no memory was left at the start
pub growing_none : {T R : Type 0} (view : R → ReaderView) (tree : Tree) (config : Config) (first : List ℕ) (readers : List R) (caches : List (List KeptManifest)) (seats : List ClaimSeat) (result : Result T MakeEnd) → result ≡ Err ends.NoMemory
    → length seats ≤ length readers → AllByRecursion (λ (seat : ClaimSeat). lists_of seat ≡ empty_lists) seats → Grows view tree config first readers readers seats result
growing_none view tree config first readers caches seats result is enough new = subst (Grows view tree config first readers readers seats) (sym is) (record {
  reads = each_new view tree readers seats enough new;
  made = λ readings are. made_new (record_of readings tree config) first seats new;
  ends = λ readings are. tt;
})
