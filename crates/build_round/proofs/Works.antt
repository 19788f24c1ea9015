-- One file taken after another (this project).
use Rattle.std.proofs.Common.{◌≡◌, ℕ, ◌≤◌, false, ◌==◌, List, [], ◌∷◌, ◌++◌, map, length, append-nil, append_assoc, refl, sym, ap, subst, ◌∙◌, inl, inr, ⊎_elim, arith, le_refl}
use Rattle.std.specs.Prelude.{Contains, IsTrue, Result, Ok, Err}
use Rattle.std.specs.List.{list_any, AllByRecursion}
use Rattle.std.proofs.lemmas.List.{map-append}
use Rattle.std.proofs.lemmas.List.Concat.{flat_map-append}
use Rattle.std.proofs.lemmas.List.Elements.{Contains-append_left, Contains-append_right, Contains-push}
use Rattle.std.proofs.lemmas.List.Folds.{list_any-append}
use Rattle.claim_board.proofs.Found.{in_last}
use Rattle.claim_board.specs.Claims.{IsKnown, IsSameSeat, IsWon, lists_of, published, seen, won}
use Rattle.claim_board.specs.Lists.{is_in, put_in}
use Rattle.claim_board.specs.declared.lists.Lists.{Lists}
use Rattle.claim_board.specs.declared.seat.ClaimSeat.{ClaimSeat}
use Rattle.pack_util.specs.declared.number.FileId.{FileId}
use Rattle.graph_types.specs.Modules.{file_id}
use Rattle.graph_types.specs.Targets.{targets_of}
use Rattle.graph_types.specs.declared.config.Config.{Config}
use Rattle.graph_types.specs.declared.record.ModRecord.{ModRecord}
use Rattle.module_build.proofs.Gains.{reads_more, reads_none}
use Rattle.module_build.specs.Build.{Builds}
use Rattle.module_build.specs.Reads.{ReadsPaths, file_path}
use Rattle.module_build.specs.Record.{record_of}
use Rattle.module_build.specs.Shape.{IsSimple}
use Rattle.outside.specs.Cause.{HasCause}
use Rattle.outside.specs.Tree.{Told, Tree}
use Rattle.outside.specs.Views.{ReaderView}
use Rattle.outside.specs.declared.entry.Why.{Why}
use Rattle.outside.specs.declared.outside_end.OutsideEnd.{OutsideEnd}
use Rattle.outside.specs.declared.outside_end.OutsideEnd.TheVariants.{Failed, NoMemory}
use Rattle.resolve_path.specs.declared.kept.KeptManifest.{KeptManifest}
use Rattle.tree_listing.specs.Listing.{IsListingOf, Listed}
use Rattle.build_round.specs.Rounds.{ReadsWon, knows, named_by, numbers_in}
use Rattle.build_round.specs.declared.part.Bench.{Bench}
use Rattle.build_round.specs.inner.Parts.{Adds, BuildsOne, DoesOn, IsRecordOf, is_none, is_one, Keeps, Takes, Works}
use Rattle.build_round.proofs.Kept.{keeps_more, keeps_none}
use Rattle.build_round.proofs.Lists.{all-append, all_weaker, distinct-append, distinct_none, distinct_one, or_left, or_none}
use Rattle.build_round.proofs.Seats.{adds_more, known_now, knows_more, stays}

-- ---- what is read

module _ (tree : Tree) (config : Config) where
  -- nothing is read
  pub on_none : (view : ReaderView) (cache : List KeptManifest) → DoesOn tree config view view cache cache [] []
  on_none view cache = record { no_stray = refl; cache = λ true. true; records = λ true readings are. tt; reads = ([], sym (append-nil view.log), inl reads_none) }

  module _ (file : ℕ) (old new : List KeptManifest) (before now : ReaderView) where
    -- the build ended otherwise
    pub on_failed : (end : OutsideEnd) → Builds tree config file old new before now (Err end) → DoesOn tree config before now old new (file ∷ []) []
    on_failed end builds = record { no_stray = builds.reads.no_stray; cache = builds.cache; records = λ true readings are. tt; reads = builds.reads.reads }

    -- the record was built, and isn't published
    pub on_unpublished : (rec : ModRecord) → Builds tree config file old new before now (Ok rec) → DoesOn tree config before now old new (file ∷ []) []
    on_unpublished rec builds =
        let reads = builds.reads.reads in
        record { no_stray = builds.reads.no_stray; cache = builds.cache; records = λ true readings are. tt; reads = (reads.0, reads.1, inr reads.2) }

    pub on_built : (rec : ModRecord) → Builds tree config file old new before now (Ok rec) → DoesOn tree config before now old new (file ∷ []) ((file, rec) ∷ [])
    on_built rec builds =
        let reads = builds.reads.reads in
        record { no_stray = builds.reads.no_stray; cache = builds.cache; records = λ true readings are. (builds.record_is true readings are, tt); reads = (reads.0, reads.1, inl reads.2) }

  module _ (claimed more : List ℕ) (built after : List (ℕ × ModRecord)) (all : numbers_in built ≡ claimed) where
    -- all that was claimed first has its record
    won_more : (reads next : List (List ℕ × Why)) → ReadsWon tree claimed (numbers_in built) reads → ReadsWon tree more (numbers_in after) next
        → ReadsWon tree (claimed ++ more) (numbers_in (built ++ after)) (reads ++ next)
    won_more reads next first second =
        let path = file_path tree in
        let numbers : numbers_in (built ++ after) ≡ claimed ++ numbers_in after = map-append (λ (pair : ℕ × ModRecord). pair.0) built after ∙ ap (λ (front : List ℕ). front ++ numbers_in after) all in
        let whole : ReadsPaths (map path claimed) reads = ⊎_elim
        (λ (is : ReadsPaths (map path (numbers_in built)) reads). subst (λ (files : List ℕ). ReadsPaths (map path files) reads) all is)
        (λ (is : ReadsPaths (map path claimed) reads). is) first in
        ⊎_elim
        (λ (is : ReadsPaths (map path (numbers_in after)) next). inl (subst (λ (paths : List (List ℕ)). ReadsPaths paths (reads ++ next)) (sym (map-append path claimed (numbers_in after)) ∙ ap (map path) (sym numbers))
        (reads_more (map path claimed) (map path (numbers_in after)) reads next whole is)))
        (λ (is : ReadsPaths (map path more) next). inr (subst (λ (paths : List (List ℕ)). ReadsPaths paths (reads ++ next)) (sym (map-append path claimed more)) (reads_more (map path claimed) (map path more) reads next whole is)))
        second

    pub on_more : (one two three : ReaderView) (cache cache' cache'' : List KeptManifest) → DoesOn tree config one two cache cache' claimed built → DoesOn tree config two three cache' cache'' more after
        → DoesOn tree config one three cache cache'' (claimed ++ more) (built ++ after)
    on_more one two three cache cache' cache'' first second =
        let reads = first.reads in
        let next = second.reads in record {
          no_stray = second.no_stray ∙ first.no_stray;
          cache = λ true. second.cache (first.cache true);
          records = λ true readings are. all-append (λ (pair : ℕ × ModRecord). pair.1 ≡ record_of readings tree config pair.0) built after (first.records true readings are) (second.records (first.cache true) readings are);
          reads = (reads.0 ++ next.0, next.1 ∙ ap (λ (log : List (List ℕ × Why)). log ++ next.0) reads.1 ∙ append_assoc one.log reads.0 next.0, won_more reads.0 next.0 reads.2 next.2);
        }

-- ---- a seat

module _ (count : ℕ) where
  pub takes_none : (seat : ClaimSeat) → Takes count [] seat seat [] []
  takes_none seat = record { adds = stays seat seat (refl, refl) refl; of_taken = tt; once = distinct_none; none_before = tt; in_order = ([], refl); simple = tt; known = tt }

  pub takes_known : (file owner : ℕ) (old new : ClaimSeat) → IsSameSeat old new → IsKnown old.number file owner (lists_of old) (lists_of new) → Takes count (file ∷ []) old new [] []
  takes_known file owner old new same is =
      let both = known_now file owner old new same is in
      record { adds = both.0; of_taken = tt; once = distinct_none; none_before = tt; in_order = ([], refl); simple = tt; known = (both.1, tt) }

  record_order : (file : ℕ) (built : List (ℕ × ModRecord)) → IsRecordOf count file built → (rest : List ℕ) × (file ∷ [] ≡ numbers_in built ++ rest)
  record_order file built is_none = (file ∷ [], refl)
  record_order file built (is_one rec simple) = ([], refl)

  record_simple : (file : ℕ) (built : List (ℕ × ModRecord)) → IsRecordOf count file built → AllByRecursion (λ pair. IsSimple count (file_id pair.0) pair.1) built
  record_simple file built is_none = tt
  record_simple file built (is_one rec simple) = (simple, tt)

  -- a claim, and what is built then
  pub takes_new : (file : ℕ) (old between new : ClaimSeat) (built : List (ℕ × ModRecord)) → IsSameSeat old between → IsWon file (lists_of old) (lists_of between) → Adds between new [] built → IsRecordOf count file built
      → Takes count (file ∷ []) old new (file ∷ []) built
  takes_new file old between new built same gain adds is =
      let claims : Adds old between (file ∷ []) [] = record {
        same = same;
        won_is = ap (λ (lists : Lists ModRecord). lists.won) gain.lists;
        published_is = ap (λ (lists : Lists ModRecord). lists.published) gain.lists ∙ sym (append-nil (published old));
        told = [];
        seen_is = ap (λ (lists : Lists ModRecord). lists.seen) gain.lists ∙ sym (append-nil (seen old));
      } in
      let all : Adds old new (file ∷ []) built = adds_more old between new (file ∷ []) [] [] built claims adds in
      record {
        adds = all;
        of_taken = (Contains-push [] file, tt);
        once = distinct_one file;
        none_before = (gain.not_won, tt);
        in_order = record_order file built is;
        simple = record_simple file built is;
        known = (or_left (is_in file (won new)) (list_any (λ (pair : ℕ × ℕ). pair.0 == file) (seen new)) (ap (is_in file) all.won_is ∙ in_last file (won old)), tt);
      }

  module _ (a b c : ClaimSeat) (taken next claimed more : List ℕ) (built after : List (ℕ × ModRecord)) where
    pub takes_more : numbers_in built ≡ claimed → Takes count taken a b claimed built → Takes count next b c more after → Takes count (taken ++ next) a c (claimed ++ more) (built ++ after)
    takes_more all first second =
        let none : AllByRecursion (λ file. (is_in file (won a) ≡ false) × (is_in file claimed ≡ false)) more =
        all_weaker (λ file. is_in file (won b) ≡ false) (λ file. (is_in file (won a) ≡ false) × (is_in file claimed ≡ false)) more
        (λ file e. or_none (is_in file (won a)) (is_in file claimed) (sym (list_any-append (λ (other : ℕ). other == file) (won a) claimed) ∙ sym (ap (is_in file) first.adds.won_is) ∙ e)) second.none_before in
        let rest = second.in_order in record {
          adds = adds_more a b c claimed more built after first.adds second.adds;
          of_taken = all-append (Contains (taken ++ next)) claimed more
              (all_weaker (Contains taken) (Contains (taken ++ next)) claimed (λ file has. Contains-append_left taken next file has) first.of_taken)
              (all_weaker (Contains next) (Contains (taken ++ next)) more (λ file has. Contains-append_right taken next file has) second.of_taken);
          once = distinct-append claimed more first.once second.once (all_weaker (λ file. (is_in file (won a) ≡ false) × (is_in file claimed ≡ false)) (λ file. is_in file claimed ≡ false) more (λ file both. both.1) none);
          none_before = all-append (λ file. is_in file (won a) ≡ false) claimed more first.none_before (all_weaker (λ file. (is_in file (won a) ≡ false) × (is_in file claimed ≡ false)) (λ file. is_in file (won a) ≡ false) more (λ file both. both.0) none);
          in_order = (
            rest.0,
            ap (λ (files : List ℕ). claimed ++ files) rest.1 ∙ sym (append_assoc claimed (numbers_in after) rest.0)
                ∙ ap (λ (front : List ℕ). (front ++ numbers_in after) ++ rest.0) (sym all) ∙ ap (λ (front : List ℕ). front ++ rest.0) (sym (map-append (λ (pair : ℕ × ModRecord). pair.0) built after)),
          );
          simple = all-append (λ (pair : ℕ × ModRecord). IsSimple count (file_id pair.0) pair.1) built after first.simple second.simple;
          known = all-append (λ file. IsTrue (knows file c)) taken next (all_weaker (λ file. IsTrue (knows file b)) (λ file. IsTrue (knows file c)) taken (λ file known. knows_more file b c more after second.adds known) first.known) second.known;
        }

-- ---- a worker

pub cause_more : (one two three : ℕ) (end : Result Unit OutsideEnd) → one ≤ two → HasCause two three end → HasCause one three end
cause_more one two three end first second = record { never_falls = let next = second.never_falls in omega arith; failed = λ is. let rose = second.failed is in omega arith }

-- an answer of another type has the same cause
pub cause_as : {S T : Type 0} (before now : ℕ) (end : OutsideEnd) (result : Result S OutsideEnd) (other : Result T OutsideEnd) → result ≡ Err end → other ≡ Err end → HasCause before now result → HasCause before now other
cause_as before now Failed result other is same cause = record { never_falls = cause.never_falls; failed = λ _. cause.failed is }
cause_as before now NoMemory result other is same cause = record { never_falls = cause.never_falls; failed = λ failed. absurd (cc) }

-- an answer without a failure needs none
pub cause_well : {S T : Type 0} (before now : ℕ) (value : S) (other : T) → HasCause before now (Ok value) → HasCause before now (Ok other)
cause_well before now value other cause = record { never_falls = cause.never_falls; failed = λ is. absurd (cc) }

pub cause_memory : {S : Type 0} (before now : ℕ) (value : S) → HasCause before now (Ok value) → HasCause {T = Unit} before now (Err NoMemory)
cause_memory before now value cause = record { never_falls = cause.never_falls; failed = λ is. absurd (cc) }

cause_start : (count : ℕ) → HasCause {T = Unit} count count (Ok tt)
cause_start count = record { never_falls = le_refl count; failed = λ is. absurd (cc) }

-- the record joins what the seat published
publishes : (file : ℕ) (rec : ModRecord) (old new : ClaimSeat) → IsSameSeat old new → rec.file.0 ≡ file → lists_of new ≡ put_in rec.file.0 rec (lists_of old) → Adds old new [] ((file, rec) ∷ [])
publishes file rec old new same is lists = record {
  same = same;
  won_is = ap (λ (lists : Lists ModRecord). lists.won) lists ∙ sym (append-nil (won old));
  published_is = ap (λ (lists : Lists ModRecord). lists.published) lists ∙ ap (λ (number : ℕ). published old ++ (number, rec) ∷ []) is;
  told = [];
  seen_is = ap (λ (lists : Lists ModRecord). lists.seen) lists ∙ sym (append-nil (seen old));
}

module _ {R : Type 0} (view : R → ReaderView) (follows : R → R → Type 0) (listing : Listed) (config : Config) where
  -- nothing is taken yet
  pub works_none : (bench : Bench R) → follows bench.reader bench.reader → Works view follows listing config [] bench bench (Ok tt)
  works_none bench itself = record {
    claimed = [];
    built = [];
    takes = takes_none (length listing.files) bench.seat;
    reads = record {
      follows_it = itself;
      cause = cause_start (view bench.reader).faults;
      told = λ tree told listed. on_none tree config (view bench.reader) bench.cache;
    };
    whole = λ _. record { published_all = refl; keeps = keeps_none (length listing.files) bench.seat bench.kept.items };
  }

  module _ (taken next : List ℕ) (a b c : Bench R) (end : Result Unit OutsideEnd) where
    pub works_more : (follows a.reader b.reader → follows b.reader c.reader → follows a.reader c.reader) → (follows a.reader b.reader → (view b.reader).tree ≡ (view a.reader).tree)
        → Works view follows listing config taken a b (Ok tt) → Works view follows listing config next b c end → Works view follows listing config (taken ++ next) a c end
    works_more on same first second =
        let count = length listing.files in
        let done = first.whole refl in
        let tree_is = same first.reads.follows_it in record {
          claimed = first.claimed ++ second.claimed;
          built = first.built ++ second.built;
          takes = takes_more count a.seat b.seat c.seat taken next first.claimed second.claimed first.built second.built done.published_all first.takes second.takes;
          reads = record {
            follows_it = on first.reads.follows_it second.reads.follows_it;
            cause = cause_more (view a.reader).faults (view b.reader).faults (view c.reader).faults end first.reads.cause.never_falls second.reads.cause;
            told = λ tree told listed. on_more tree config first.claimed second.claimed first.built second.built done.published_all (view a.reader) (view b.reader) (view c.reader) a.cache b.cache c.cache
                (first.reads.told tree told listed) (second.reads.told tree (tree_is ∙ told) listed);
          };
          whole = λ is.
              let last = second.whole is in
              let records = λ (pairs : List (ℕ × ModRecord)). map (λ (pair : ℕ × ModRecord). pair.1) pairs in
              let named : named_by (records (first.built ++ second.built)) ≡ named_by (records first.built) ++ named_by (records second.built) =
              ap named_by (map-append (λ (pair : ℕ × ModRecord). pair.1) first.built second.built) ∙ flat_map-append targets_of (records first.built) (records second.built) in record {
                published_all = map-append (λ (pair : ℕ × ModRecord). pair.0) first.built second.built ∙ ap (λ (files : List ℕ). files ++ numbers_in second.built) done.published_all ∙ ap (λ (files : List ℕ). first.claimed ++ files) last.published_all;
                keeps = subst (λ (files : List ℕ). Keeps count c.seat files a.kept.items c.kept.items) (sym named)
                    (keeps_more count b.seat c.seat second.claimed second.built second.takes.adds (named_by (records first.built)) (named_by (records second.built)) a.kept.items b.kept.items c.kept.items done.keeps last.keeps);
              };
        }

  module _ (file : ℕ) (old new : Bench R) where
    -- nothing was published
    pub builds_none : (end : OutsideEnd) → follows old.reader new.reader → HasCause {T = Unit} (view old.reader).faults (view new.reader).faults (Err end)
        → Told (view old.reader).tree (λ tree. IsListingOf tree listing → DoesOn tree config (view old.reader) (view new.reader) old.cache new.cache (file ∷ []) [])
        → Adds old.seat new.seat [] [] → BuildsOne view follows listing config file old new (Err end)
    builds_none end follow cause told adds = record {
      built = [];
      adds = adds;
      is_record = is_none;
      reads = record { follows_it = follow; cause = cause; told = told };
      whole = λ is. absurd (cc);
    }

    pub builds_one : (between : ClaimSeat) (rec : ModRecord) → follows old.reader new.reader → HasCause {T = Unit} (view old.reader).faults (view new.reader).faults (Ok tt)
        → Told (view old.reader).tree (λ tree. IsListingOf tree listing → DoesOn tree config (view old.reader) (view new.reader) old.cache new.cache (file ∷ []) ((file, rec) ∷ []))
        → IsSimple (length listing.files) (file_id file) rec → Adds old.seat between [] [] → IsSameSeat between new.seat → lists_of new.seat ≡ put_in rec.file.0 rec (lists_of between)
        → Keeps (length listing.files) between (targets_of rec) old.kept.items new.kept.items → BuildsOne view follows listing config file old new (Ok tt)
    builds_one between rec follow cause told simple adds same lists keeps =
        let count = length listing.files in
        let pair = (file, rec) ∷ [] in
        let put = publishes file rec between new.seat same (ap (λ (one : FileId). one.0) simple.file_is) lists in record {
          built = pair;
          adds = adds_more old.seat between new.seat [] [] [] pair adds put;
          is_record = is_one rec simple;
          reads = record { follows_it = follow; cause = cause; told = told };
          whole = λ _. record {
            published_all = refl;
            keeps = keeps_more count between new.seat [] pair put (targets_of rec) [] old.kept.items new.kept.items new.kept.items keeps (keeps_none count new.seat new.kept.items);
          };
        }

    -- the file was claimed before it was built
    pub works_new : (between : Bench R) (end : Result Unit OutsideEnd) → between.reader ≡ old.reader → between.cache ≡ old.cache → between.kept ≡ old.kept → IsSameSeat old.seat between.seat
        → IsWon file (lists_of old.seat) (lists_of between.seat) → BuildsOne view follows listing config file between new end → Works view follows listing config (file ∷ []) old new end
    works_new between end reader cache kept same gain builds = record {
      claimed = file ∷ [];
      built = builds.built;
      takes = takes_new (length listing.files) file old.seat between.seat new.seat builds.built same gain builds.adds builds.is_record;
      reads = record {
        follows_it = subst (λ (one : R). follows one new.reader) reader builds.reads.follows_it;
        cause = subst (λ (one : R). HasCause (view one).faults (view new.reader).faults end) reader builds.reads.cause;
        told = λ tree told listed.
            subst (λ (one : List KeptManifest). DoesOn tree config (view old.reader) (view new.reader) one new.cache (file ∷ []) builds.built) cache
            (subst (λ (one : R). DoesOn tree config (view one) (view new.reader) between.cache new.cache (file ∷ []) builds.built) reader
            (builds.reads.told tree (ap (λ (one : R). (view one).tree) reader ∙ told) listed));
      };
      whole = λ is.
          let whole = builds.whole is in record {
            published_all = whole.published_all;
            keeps = subst (λ one. Keeps (length listing.files) new.seat (named_by (map (λ pair. pair.1) builds.built)) one.items new.kept.items) kept whole.keeps;
          };
    }

    -- the file has an owner
    pub works_known : (owner : ℕ) → new.reader ≡ old.reader → new.cache ≡ old.cache → new.kept ≡ old.kept → follows old.reader old.reader → IsSameSeat old.seat new.seat
        → IsKnown old.seat.number file owner (lists_of old.seat) (lists_of new.seat) → Works view follows listing config (file ∷ []) old new (Ok tt)
    works_known owner reader cache kept itself same known = record {
      claimed = [];
      built = [];
      takes = takes_known (length listing.files) file owner old.seat new.seat same known;
      reads = record {
        follows_it = subst (λ (one : R). follows old.reader one) (sym reader) itself;
        cause = subst (λ (one : R). HasCause (view old.reader).faults (view one).faults (Ok tt)) (sym reader) (cause_start (view old.reader).faults);
        told = λ tree told listed.
            subst (λ (one : List KeptManifest). DoesOn tree config (view old.reader) (view new.reader) old.cache one [] []) (sym cache)
            (subst (λ (one : R). DoesOn tree config (view old.reader) (view one) old.cache old.cache [] []) (sym reader) (on_none tree config (view old.reader) old.cache));
      };
      whole = λ _. record {
        published_all = refl;
        keeps = subst (λ one. Keeps (length listing.files) new.seat [] old.kept.items one.items) (sym kept) (keeps_none (length listing.files) new.seat old.kept.items);
      };
    }
