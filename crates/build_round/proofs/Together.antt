-- What the parts of a round come to (this project).
use Rattle.std.proofs.Common.{◌≡◌, ℕ, zero, suc, ◌+◌, ◌<◌, Bool, true, false, cond, ltb, ◌==◌, eqb-true, List, [], ◌∷◌, ◌++◌, map, length, get_or, take, drop, arith, refl, sym, ap, subst, ◌∙◌, inl, inr, ⊎_elim}
use Rattle.std.specs.Prelude.{Contains, IsTrue, IsOk, IsErrOf, flat_map, sum_by, nat_eq}
use Rattle.std.specs.List.{AllByRecursion, AllZip, IsDistinct}
use Rattle.std.proofs.lemmas.Bool.{lt-ltb}
use Rattle.std.proofs.lemmas.List.{get_or-map, length-map, take-append-drop}
use Rattle.std.proofs.lemmas.List.Concat.{flat_map-append}
use Rattle.std.proofs.lemmas.List.Elements.{All-contains, All-from_get_or, All-from_recursion, recursion_from_All}
use Rattle.std.proofs.lemmas.List.Sums.{sum_by-cons}
use Rattle.claim_board.specs.Claims.{IsSeatOf, published, seen, won}
use Rattle.claim_board.specs.Lists.{is_in}
use Rattle.claim_board.specs.declared.board.ClaimBoard.{ClaimBoard}
use Rattle.claim_board.specs.declared.seat.ClaimSeat.{ClaimSeat}
use Rattle.draw_board.specs.Draws.{AreSeatsFrom, Closes, IsNewSeat, drawn, once_below, times}
use Rattle.draw_board.specs.declared.board.DrawBoard.{DrawBoard}
use Rattle.pack_util.specs.declared.number.FileId.{FileId}
use Rattle.graph_types.specs.Modules.{file_id}
use Rattle.graph_types.specs.Targets.{targets_of}
use Rattle.graph_types.specs.declared.config.Config.{Config}
use Rattle.graph_types.specs.declared.record.ModRecord.{ModRecord}
use Rattle.module_build.specs.Record.{record_of}
use Rattle.module_build.specs.Shape.{IsSimple}
use Rattle.outside.specs.Logs.{Gains}
use Rattle.outside.specs.Tree.{Tree}
use Rattle.outside.specs.Views.{ReaderView}
use Rattle.outside.specs.declared.outside_end.OutsideEnd.TheVariants.{Failed}
use Rattle.resolve_path.specs.declared.kept.KeptManifest.{KeptManifest}
use Rattle.tree_listing.specs.Listing.{IsListingOf, Listed}
use Rattle.build_round.specs.Readers.{AllTell, SomeRose}
use Rattle.build_round.specs.Rounds.{HasGrown, HasPublishedAll, IsDone, ReadsWon, Wins, WorksOn, all_published, gained, is_known, knows, named_by, newly_published, newly_won, numbers_in, workers_of}
use Rattle.build_round.specs.declared.part.Part.{Part}
use Rattle.build_round.specs.inner.Handing.{IsIdle, caches_of, hands_of, readers_of, seats_of}
use Rattle.build_round.specs.inner.Parts.{Adds, AreKept, DoesOn, DoesPart, IsReady, SomeFailed, Takes, file_at, kept_by}
use Rattle.build_round.proofs.Kept.{both_kept, kept_none}
use Rattle.build_round.proofs.Lists.{all_weaker, drop-front, or_left, or_right}
use Rattle.build_round.proofs.Seats.{stays}
use Rattle.build_round.proofs.Works.{on_none, takes_none}

-- ---- what a seat gained

module _ {A : Type 0} where
  pub gained_is : (old new more : List A) → new ≡ old ++ more → gained old new ≡ more
  gained_is old new more is = ap (drop (length old)) is ∙ drop-front old more

  grown : (old new more : List A) → new ≡ old ++ more → HasGrown old new
  grown old new more is = is ∙ ap (λ (rest : List A). old ++ rest) (sym (gained_is old new more is))

module _ (old new : ClaimSeat) (claimed : List ℕ) (built : List (ℕ × ModRecord)) (adds : Adds old new claimed built) where
  pub won_is_new : newly_won old new ≡ claimed
  won_is_new = gained_is (won old) (won new) claimed adds.won_is

  pub published_is_new : newly_published old new ≡ built
  published_is_new = gained_is (published old) (published new) built adds.published_is

pub wins_of : (count : ℕ) (frontier : List FileId) (taken : List ℕ) (old new : ClaimSeat) (claimed : List ℕ) (built : List (ℕ × ModRecord))
    → AllByRecursion (Contains (map (λ file. file.0) frontier)) taken → Takes count taken old new claimed built → Wins count frontier old new
wins_of count frontier taken old new claimed built inside takes =
    let adds = takes.adds in
    let numbers = map (λ (file : FileId). file.0) frontier in
    let files = sym (won_is_new old new claimed built adds) in
    let pairs = sym (published_is_new old new claimed built adds) in
    let all = All-from_recursion (Contains numbers) taken inside in record {
      same = adds.same;
      won_grows = grown (won old) (won new) claimed adds.won_is;
      published_grows = grown (published old) (published new) built adds.published_is;
      seen_grows = grown (seen old) (seen new) adds.told adds.seen_is;
      of_frontier = subst (AllByRecursion (Contains numbers)) files (all_weaker (Contains taken) (Contains numbers) claimed (λ file has. All-contains (Contains numbers) taken file all has) takes.of_taken);
      once = subst (λ (files : List ℕ). IsDistinct nat_eq files) files takes.once;
      none_before = subst (AllByRecursion (λ file. is_in file (won old) ≡ false)) files takes.none_before;
      in_order = (takes.in_order.0, sym files ∙ takes.in_order.1 ∙ ap (λ (pairs : List (ℕ × ModRecord)). numbers_in pairs ++ takes.in_order.0) pairs);
      simple = subst (AllByRecursion (λ pair. IsSimple count (file_id pair.0) pair.1)) pairs takes.simple;
    }

-- the numbers of a frontier's files
number_at : (frontier : List FileId) (k : ℕ) (d : FileId) → k < length frontier → Contains (map (λ file. file.0) frontier) (get_or frontier k d).0
number_at frontier k d below =
    let many = length-map frontier (λ (file : FileId). file.0) in
    (k, omega (arith, many), get_or-map (λ (file : FileId). file.0) frontier k d (get_or frontier k d).0 below)

pub files_inside : (frontier : List FileId) (places : List ℕ) → AllByRecursion (λ place. place < length frontier) places → AllByRecursion (Contains (map (λ file. file.0) frontier)) (map (file_at frontier) places)
files_inside frontier [] inside = tt
files_inside frontier (place ∷ places) inside = (number_at frontier place (file_id 0) inside.0, files_inside frontier places inside.1)

pub wins_none : (count : ℕ) (frontier : List FileId) (seat : ClaimSeat) → Wins count frontier seat seat
wins_none count frontier seat = wins_of count frontier [] seat seat [] [] tt (takes_none count seat)

-- ---- what a worker reads

pub works_on : (tree : Tree) (config : Config) (before now : ReaderView) (old new : ClaimSeat) (cache cache' : List KeptManifest) (claimed : List ℕ) (built : List (ℕ × ModRecord)) → Adds old new claimed built
    → DoesOn tree config before now cache cache' claimed built → WorksOn tree config (record { before = before; now = now; old = old; new = new; cache = cache; cache' = cache' })
works_on tree config before now old new cache cache' claimed built adds does =
    let files = sym (won_is_new old new claimed built adds) in
    let pairs = sym (published_is_new old new claimed built adds) in record {
      no_stray = does.no_stray;
      cache = does.cache;
      records = λ true readings are. subst (AllByRecursion (λ pair. pair.1 ≡ record_of readings tree config pair.0)) pairs (does.records true readings are);
      reads = subst (λ (files : List ℕ). Gains before now (ReadsWon tree files (numbers_in (newly_published old new)))) files
          (subst (λ (pairs : List (ℕ × ModRecord)). Gains before now (ReadsWon tree claimed (numbers_in pairs))) pairs does.reads);
    }

module _ {R : Type 0} (view : R → ReaderView) (tree : Tree) (config : Config) where
  -- workers that did nothing
  pub told_none : (readers : List R) (seats : List ClaimSeat) (caches : List (List KeptManifest)) → AllByRecursion (WorksOn tree config) (workers_of view readers readers seats seats caches caches)
  told_none [] seats caches = tt
  told_none (reader ∷ readers) [] caches = tt
  told_none (reader ∷ readers) (seat ∷ seats) [] = tt
  told_none (reader ∷ readers) (seat ∷ seats) (cache ∷ caches) = (
    works_on tree config (view reader) (view reader) seat seat cache cache [] [] (stays seat seat (refl, refl) refl) (on_none tree config (view reader) cache),
    told_none readers seats caches,
  )

-- ---- parts before their work

pub ready_all : {R : Type 0} (board : ClaimBoard) (draws : DrawBoard) (from : ℕ) (parts : List (Part R)) → AllByRecursion (IsSeatOf board) (seats_of parts) → AreSeatsFrom draws from (hands_of parts) → AllByRecursion IsNewSeat (hands_of parts)
    → AllByRecursion IsIdle parts → AllByRecursion (IsReady board draws) parts
ready_all board draws from [] seats hands new idle = tt
ready_all board draws from (part ∷ parts) seats hands new idle =
    (record { seat = seats.0; hand = hands.0; new = new.0; nothing_kept = idle.0.nothing_kept }, ready_all board draws (suc from) parts seats.1 hands.2 new.1 idle.1)

-- the readers of the parts, and those beyond them
pub readers_before : {R : Type 0} (count : ℕ) (all others : List R) (parts : List (Part R)) → take count all ≡ readers_of parts → others ≡ drop count all → all ≡ readers_of parts ++ others
readers_before {R} count all others parts made rest =
    sym (take-append-drop count all) ∙ ap (λ (front : List R). front ++ drop count all) made ∙ ap (λ (back : List R). readers_of parts ++ back) (sym rest)

-- ---- parts after their work

abbrev one_if : Bool → ℕ
one_if b = cond b 1 0

-- a position that is drawn is one whose file is known
place_known : (frontier : List FileId) (seat : ClaimSeat) (place : ℕ) (places : List ℕ) → AllByRecursion (λ file. IsTrue (knows file seat)) (map (file_at frontier) places) → 0 < times place places
    → knows (file_at frontier place) seat ≡ true
place_known frontier seat place [] known some = absurd (omega arith)
place_known frontier seat place (one ∷ places) known some = by (one == place) refl (λ later. place_known frontier seat place places known.1 later)
  where
    by : (b : Bool) → (one == place) ≡ b → (0 < times place places → knows (file_at frontier place) seat ≡ true) → knows (file_at frontier place) seat ≡ true
    by true is later = subst (λ (number : ℕ). knows (file_at frontier number) seat ≡ true) (eqb-true one place is) known.0
    by false is later =
        let count : times place (one ∷ places) ≡ one_if (one == place) + times place places = sum_by-cons (λ (number : ℕ). cond (number == place) 1 0) one places in
        let none : one_if (one == place) ≡ 0 = ap one_if is in
        later (omega (arith, count, none))

module _ {R : Type 0} (view : R → ReaderView) (follows : R → R → Type 0) (listing : Listed) (config : Config) (frontier : List FileId) where
  pub follow_all : (others : List R) (parts parts' : List (Part R)) → AllZip follows others others → AllZip (DoesPart view follows listing config frontier) parts parts' → AllZip follows (readers_of parts ++ others) (readers_of parts' ++ others)
  follow_all others [] [] itself did = itself
  follow_all others [] (part ∷ parts) itself did = absurd did
  follow_all others (part ∷ parts) [] itself did = absurd did
  follow_all others (part ∷ parts) (part' ∷ parts') itself did = (did.0.does.works.reads.follows_it, follow_all others parts parts' itself did.1)

  pub rose_some : (others : List R) (parts parts' : List (Part R)) → SomeFailed parts' → AllZip (DoesPart view follows listing config frontier) parts parts' → SomeRose view (readers_of parts ++ others) (readers_of parts' ++ others)
  rose_some others [] [] failed did = absurd failed
  rose_some others [] (part ∷ parts) failed did = absurd did
  rose_some others (part ∷ parts) [] failed did = absurd did
  rose_some others (part ∷ parts) (part' ∷ parts') failed did = ⊎_elim
      (λ (here : IsErrOf part'.end Failed). inl (did.0.does.works.reads.cause.failed here))
      (λ (later : SomeFailed parts'). inr (rose_some others parts parts' later did.1)) failed

  pub wins_all : (parts parts' : List (Part R)) → AllZip (DoesPart view follows listing config frontier) parts parts' → AllZip (Wins (length listing.files) frontier) (seats_of parts) (seats_of parts')
  wins_all [] [] did = tt
  wins_all [] (part ∷ parts) did = absurd did
  wins_all (part ∷ parts) [] did = absurd did
  wins_all (part ∷ parts) (part' ∷ parts') did =
      let does = did.0.does in (
        wins_of (length listing.files) frontier (map (file_at frontier) (drawn part'.hand)) part.bench.seat part'.bench.seat does.works.claimed does.works.built (files_inside frontier (drawn part'.hand) does.inside) does.works.takes,
        wins_all parts parts' did.1,
      )

  pub told_all : (tree : Tree) (others : List R) (parts parts' : List (Part R)) → IsListingOf tree listing → AllTell view (readers_of parts ++ others) tree → AllZip (DoesPart view follows listing config frontier) parts parts'
      → AllByRecursion (WorksOn tree config) (workers_of view (readers_of parts ++ others) (readers_of parts' ++ others) (seats_of parts) (seats_of parts') (caches_of parts) (caches_of parts'))
  told_all tree [] [] [] listed told did = tt
  told_all tree (other ∷ others) [] [] listed told did = tt
  told_all tree others [] (part ∷ parts) listed told did = absurd did
  told_all tree others (part ∷ parts) [] listed told did = absurd did
  told_all tree others (part ∷ parts) (part' ∷ parts') listed told did =
      let works = did.0.does.works in (
        works_on tree config (view part.bench.reader) (view part'.bench.reader) part.bench.seat part'.bench.seat part.bench.cache part'.bench.cache works.claimed works.built works.takes.adds (works.reads.told tree told.0 listed),
        told_all tree others parts parts' listed told.1 did.1,
      )

  pub hands_all : (draws : DrawBoard) (from : ℕ) (parts parts' : List (Part R)) → AllZip (DoesPart view follows listing config frontier) parts parts' → AreSeatsFrom draws from (hands_of parts) → AreSeatsFrom draws from (hands_of parts')
  hands_all draws from [] [] did are = tt
  hands_all draws from [] (part ∷ parts) did are = absurd did
  hands_all draws from (part ∷ parts) [] did are = absurd did
  hands_all draws from (part ∷ parts) (part' ∷ parts') did are =
      let same = did.0.does.same_hand in
      ((same.0 ∙ are.0.0, same.1 ∙ are.0.1), same.2 ∙ are.1, hands_all draws (suc from) parts parts' did.1 are.2)

  pub many : (parts parts' : List (Part R)) → AllZip (DoesPart view follows listing config frontier) parts parts' → length parts' ≡ length parts
  many [] [] did = refl
  many [] (part ∷ parts) did = absurd did
  many (part ∷ parts) [] did = absurd did
  many (part ∷ parts) (part' ∷ parts') did = ap suc (many parts parts' did.1)

  -- ---- where all ended well

  drawn_known : (parts parts' : List (Part R)) (place : ℕ) → AllZip (DoesPart view follows listing config frontier) parts parts' → 0 < sum_by (λ hand. times place (drawn hand)) (hands_of parts')
      → is_known (file_at frontier place) (seats_of parts') ≡ true
  drawn_known [] [] place did some = absurd (omega arith)
  drawn_known [] (part ∷ parts) place did some = absurd did
  drawn_known (part ∷ parts) [] place did some = absurd did
  drawn_known (part ∷ parts) (part' ∷ parts') place did some =
      let number = times place (drawn part'.hand) in
      let rest = sum_by (λ hand. times place (drawn hand)) (hands_of parts') in
      let both : sum_by (λ hand. times place (drawn hand)) (hands_of (part' ∷ parts')) ≡ number + rest = sum_by-cons (λ hand. times place (drawn hand)) part'.hand (hands_of parts') in
      by number rest refl refl (omega arith) (λ later. drawn_known parts parts' place did.1 later)
    where
      by : (number rest : ℕ) → times place (drawn part'.hand) ≡ number → sum_by (λ hand. times place (drawn hand)) (hands_of parts') ≡ rest → 0 < number + rest
          → (0 < sum_by (λ hand. times place (drawn hand)) (hands_of parts') → is_known (file_at frontier place) (seats_of parts') ≡ true) → is_known (file_at frontier place) (seats_of (part' ∷ parts')) ≡ true
      by zero rest is others more later = or_right (knows (file_at frontier place) part'.bench.seat) (is_known (file_at frontier place) (seats_of parts')) (later (omega arith))
      by (suc number) rest is others more later = or_left (knows (file_at frontier place) part'.bench.seat) (is_known (file_at frontier place) (seats_of parts'))
          (place_known frontier part'.bench.seat place (drawn part'.hand) did.0.does.works.takes.known (omega arith))

  -- the first worker drew none, so that all positions were drawn
  all_drawn : (len count : ℕ) (parts parts' : List (Part R)) → 0 < length parts' → AllByRecursion (λ part. IsOk part.end) parts' → AllZip (DoesPart view follows listing config frontier) parts parts' → Closes len (hands_of parts') count → count ≡ len
  all_drawn len count parts [] some well did closes = absurd (omega arith)
  all_drawn len count [] (part' ∷ parts') some well did closes = absurd did
  all_drawn len count (part ∷ parts) (part' ∷ parts') some well did closes = closes.all part'.hand (0, omega arith, refl) (did.0.does.all well.0)

  known_all : (count : ℕ) (parts parts' : List (Part R)) → 0 < length parts' → AllByRecursion (λ part. IsOk part.end) parts' → AllZip (DoesPart view follows listing config frontier) parts parts' → Closes (length frontier) (hands_of parts') count
      → AllByRecursion (λ file. IsTrue (is_known file.0 (seats_of parts'))) frontier
  known_all count parts parts' some well did closes =
      let whole = all_drawn (length frontier) count parts parts' some well did closes in
      let Is : FileId → Type 0 = λ file. IsTrue (is_known file.0 (seats_of parts')) in
      recursion_from_All Is frontier (All-from_get_or Is frontier (file_id 0) (λ place below. drawn_known parts parts' place did (once place below whole)))
    where
      once : (place : ℕ) → place < length frontier → count ≡ length frontier → 0 < sum_by (λ hand. times place (drawn hand)) (hands_of parts')
      once place below whole =
          let is = closes.once place in
          let one : ltb place count ≡ true = lt-ltb place count (omega arith) in
          let number : once_below place count ≡ 1 = ap one_if one in
          omega arith

  published_all : (parts parts' : List (Part R)) → AllByRecursion (λ part. IsOk part.end) parts' → AllZip (DoesPart view follows listing config frontier) parts parts' → AllZip HasPublishedAll (seats_of parts) (seats_of parts')
  published_all [] [] well did = tt
  published_all [] (part ∷ parts) well did = absurd did
  published_all (part ∷ parts) [] well did = absurd did
  published_all (part ∷ parts) (part' ∷ parts') well did =
      let works = did.0.does.works in
      let old = part.bench.seat in
      let new = part'.bench.seat in (
        ap numbers_in (published_is_new old new works.claimed works.built works.takes.adds) ∙ (works.whole well.0).published_all ∙ sym (won_is_new old new works.claimed works.built works.takes.adds),
        published_all parts parts' well.1 did.1,
      )

  kept_all : (parts parts' : List (Part R)) → AllByRecursion IsIdle parts → AllByRecursion (λ part. IsOk part.end) parts' → AllZip (DoesPart view follows listing config frontier) parts parts'
      → AreKept (length listing.files) (λ file. is_known file (seats_of parts')) (named_by (all_published (seats_of parts) (seats_of parts'))) (flat_map kept_by parts')
  kept_all [] [] idle well did = kept_none (length listing.files) (λ file. false)
  kept_all [] (part ∷ parts) idle well did = absurd did
  kept_all (part ∷ parts) [] idle well did = absurd did
  kept_all (part ∷ parts) (part' ∷ parts') idle well did =
      let count = length listing.files in
      let works = did.0.does.works in
      let keeps = (works.whole well.0).keeps in
      let old = part.bench.seat in
      let new = part'.bench.seat in
      let records = λ (pairs : List (ℕ × ModRecord)). map (λ (pair : ℕ × ModRecord). pair.1) pairs in
      let pairs = published_is_new old new works.claimed works.built works.takes.adds in
      let rest = all_published (seats_of parts) (seats_of parts') in
      let named : named_by (records (newly_published old new) ++ rest) ≡ named_by (records works.built) ++ named_by rest =
      flat_map-append targets_of (records (newly_published old new)) rest ∙ ap (λ (pairs : List (ℕ × ModRecord)). named_by (records pairs) ++ named_by rest) pairs in
      let kept : kept_by part' ≡ keeps.kept = keeps.new_is ∙ ap (λ (files : List FileId). files ++ keeps.kept) idle.0.nothing_kept in
      let Is = AreKept count (λ file. is_known file (seats_of (part' ∷ parts'))) in
      subst (λ (files : List ℕ). Is files (kept_by part' ++ flat_map kept_by parts')) (sym named)
      (subst (λ (files : List FileId). Is (named_by (records works.built) ++ named_by rest) (files ++ flat_map kept_by parts')) (sym kept)
      (both_kept count (λ file. is_known file (seats_of (part' ∷ parts'))) (λ file. knows file new) (λ file. is_known file (seats_of parts')) (named_by (records works.built)) (named_by rest) keeps.kept (flat_map kept_by parts')
      (λ file known. or_left (knows file new) (is_known file (seats_of parts')) known) (λ file known. or_right (knows file new) (is_known file (seats_of parts')) known) keeps.are (kept_all parts parts' idle.1 well.1 did.1)))

  pub done_all : (count : ℕ) (parts parts' : List (Part R)) (answer : List FileId) → 0 < length parts' → AllByRecursion IsIdle parts → AllByRecursion (λ part. IsOk part.end) parts' → AllZip (DoesPart view follows listing config frontier) parts parts'
      → Closes (length frontier) (hands_of parts') count → answer ≡ flat_map kept_by parts' → IsDone (length listing.files) frontier (seats_of parts) (seats_of parts') answer
  done_all count parts parts' answer some idle well did closes is =
      let kept = kept_all parts parts' idle well did in
      subst (IsDone (length listing.files) frontier (seats_of parts) (seats_of parts')) (sym is) (record {
        known = known_all count parts parts' some well did closes;
        published = published_all parts parts' well did;
        named = kept.of_named;
        all_named = kept.all_named;
        within = kept.within;
      })
