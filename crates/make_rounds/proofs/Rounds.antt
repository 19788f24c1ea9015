-- What one round changes of the seats.
use Rattle.std.proofs.Common.{◌≡◌, ◌⊎◌, ℕ, suc, ◌-◌, ◌<◌, ◌≤◌, Bool, true, false, ◌||◌, List, [], ◌∷◌, ◌++◌, append_assoc, length, length-append, map, refl, sym, ap, subst, ◌∙◌, inl, inr, arith}
use Rattle.std.proofs.lemmas.List.{map-append}
use Rattle.std.proofs.lemmas.List.Elements.{Contains-append_left, Contains-append_right, Contains-append_cases}
use Rattle.std.proofs.lemmas.List.Sums.{sum_by-cons}
use Rattle.std.proofs.lemmas.Map.Steps.{length-le_from_distinct_below}
use Rattle.std.proofs.lemmas.Map.Views.{Contains-from_any}
use Rattle.std.specs.List.{AllByRecursion, AllZip, IsDistinct, list_any, sum_by}
use Rattle.std.specs.Prelude.{nat_eq, Contains, IsTrue}
use Rattle.build_round.specs.Rounds.{HasPublishedAll, IsDone, Wins, all_published, gained, is_known, knows, named_by, newly_published, newly_won, numbers_in}
use Rattle.claim_board.specs.Claims.{AreSeatsFrom, AreSeatsOf, IsSeatOf, published, seen, won}
use Rattle.claim_board.specs.Lists.{is_in}
use Rattle.claim_board.specs.declared.board.ClaimBoard.{ClaimBoard}
use Rattle.claim_board.specs.declared.seat.ClaimSeat.{ClaimSeat}
use Rattle.pack_util.specs.declared.number.FileId.{FileId}
use Rattle.graph_types.specs.Modules.{file_id}
use Rattle.graph_types.specs.Reached.{HoldsAll, IsClosed}
use Rattle.graph_types.specs.Targets.{targets_by, targets_of}
use Rattle.graph_types.specs.declared.record.ModRecord.{ModRecord}
use Rattle.module_build.specs.Shape.{IsSimple}
use Rattle.make_rounds.specs.Counts.{AreReached}
use Rattle.make_rounds.specs.inner.Answered.{numbers_of}
use Rattle.make_rounds.specs.inner.Growing.{AreMade, AreMet, HasBuilt, HasWon, IsMet}
use Rattle.make_rounds.proofs.Lists.{all-append, all-flat, all-from, all-in, all-kept, all-left, all-map, all-right, any_left, behind, distinct-append, either_true, first_or, here, left_true, none_in, right_true, same, zip-length}

-- ---- one seat

module _ (count : ℕ) (piece : List FileId) (within : AllByRecursion (λ (file : FileId). file.0 < count) piece) (old new : ClaimSeat) (wins : Wins count piece old new) where
  numbers_within : AllByRecursion (λ file. file < count) (newly_won old new)
  numbers_within =
      all-kept (Contains (map (λ (file : FileId). file.0) piece)) (λ file. file < count)
      (λ file there. all-in (λ file. file < count) (numbers_of piece) file (all-map (λ file. file < count) (λ (file : FileId). file.0) piece within) there)
      (newly_won old new) wins.of_frontier

  pub published_numbers : numbers_in (published new) ≡ numbers_in (published old) ++ numbers_in (newly_published old new)
  published_numbers = ap numbers_in wins.published_grows ∙ map-append (λ (pair : ℕ × ModRecord). pair.0) (published old) (newly_published old new)

  pub won_more : HasWon count old → HasBuilt old → HasWon count new
  won_more holds built =
      let order = wins.in_order in
      record {
        distinct = subst (IsDistinct nat_eq) (sym wins.won_grows) (distinct-append (won old) (newly_won old new) holds.distinct wins.once wins.none_before);
        within = subst (AllByRecursion (λ file. file < count)) (sym wins.won_grows) (all-append (λ file. file < count) (won old) (newly_won old new) holds.within numbers_within);
        in_order = (
          order.0,
          wins.won_grows ∙ ap (λ more. won old ++ more) order.1
              ∙ ap (λ front. front ++ (numbers_in (newly_published old new) ++ order.0)) (sym built)
              ∙ sym (append_assoc (numbers_in (published old)) (numbers_in (newly_published old new)) order.0)
              ∙ ap (λ front. front ++ order.0) (sym published_numbers),
        );
        simple = subst (AllByRecursion (λ (pair : ℕ × ModRecord). IsSimple count (file_id pair.0) pair.1)) (sym wins.published_grows)
            (all-append (λ (pair : ℕ × ModRecord). IsSimple count (file_id pair.0) pair.1) (published old) (newly_published old new) holds.simple wins.simple);
      }

  pub built_more : HasBuilt old → HasPublishedAll old new → HasBuilt new
  built_more built all = published_numbers ∙ ap (λ front. front ++ numbers_in (newly_published old new)) built ∙ ap (λ more. won old ++ more) all ∙ sym wins.won_grows

  both_more : (a b c d : Bool) → (a || b) ≡ true → (a ≡ true → c ≡ true) → (b ≡ true → d ≡ true) → (c || d) ≡ true
  both_more true b c d is one two = left_true c d (one refl)
  both_more false b c d is one two = right_true c d (two is)

  pub knows_more : (file : ℕ) → knows file old ≡ true → knows file new ≡ true
  knows_more file is =
      both_more (is_in file (won old)) (list_any (λ pair. nat_eq pair.0 file) (seen old)) (is_in file (won new)) (list_any (λ pair. nat_eq pair.0 file) (seen new)) is
      (λ own. ap (is_in file) wins.won_grows ∙ any_left (λ other. nat_eq other file) (won old) (newly_won old new) own)
      (λ told. ap (list_any (λ pair. nat_eq pair.0 file)) wins.seen_grows ∙ any_left (λ pair. nat_eq pair.0 file) (seen old) (gained (seen old) (seen new)) told)

  -- what was published is among what was claimed
  pub published_of_piece : (file : ℕ) (rec : ModRecord) → Contains (newly_published old new) (file, rec) → (held : ℕ → Bool) → HoldsAll held (numbers_of piece) → IsTrue (held file)
  published_of_piece file rec there held all =
      let claimed : AllByRecursion (λ file. IsTrue (held file)) (newly_won old new) =
      all-kept (Contains (map (λ (file : FileId). file.0) piece)) (λ file. IsTrue (held file)) (λ file there. all-in (λ file. IsTrue (held file)) (numbers_of piece) file all there) (newly_won old new) wins.of_frontier in
      let front = all-left (λ file. IsTrue (held file)) (numbers_in (newly_published old new)) wins.in_order.0 (subst (AllByRecursion (λ file. IsTrue (held file))) wins.in_order.1 claimed) in
      number_held held (newly_published old new) front there
    where
      number_held : (held : ℕ → Bool) (pairs : List (ℕ × ModRecord)) → AllByRecursion (λ file. IsTrue (held file)) (numbers_in pairs) → Contains pairs (file, rec) → IsTrue (held file)
      number_held held [] all there = absurd (none_in (file, rec) there)
      number_held held (pair ∷ pairs) all there = elim (first_or pair pairs (file, rec) there) [
        | inl first ↦ ap (λ (pair : ℕ × ModRecord). held pair.0) (sym first) ∙ all.0
        | inr rest ↦ number_held held pairs all.1 rest
      ]

  -- ---- how much room is left

  pub short : HasWon count new → length (won new) ≤ count
  short holds = length-le_from_distinct_below (won new) count holds.distinct (λ file is. all-in (λ file. file < count) (won new) file holds.within (Contains-from_any same file (won new) is))

  abbrev room : ClaimSeat → ℕ
  room seat = count - length (won seat)

  nothing_new : (claimed : List ℕ) (pairs : List (ℕ × ModRecord)) (rest : List ℕ) → claimed ≡ [] → claimed ≡ numbers_in pairs ++ rest → pairs ≡ []
  nothing_new claimed [] rest none is = refl
  nothing_new claimed (pair ∷ pairs) rest none is = cc

  less_by : (claimed : List ℕ) → claimed ≡ newly_won old new → HasWon count new → (room new < room old) ⊎ ((room new ≡ room old) × (newly_published old new ≡ []))
  less_by [] is holds =
      let all = ap length wins.won_grows ∙ length-append (won old) (newly_won old new) in
      let none : length (newly_won old new) ≡ 0 = ap length (sym is) in
      inr (omega (arith, all, none), nothing_new (newly_won old new) (newly_published old new) wins.in_order.0 (sym is) wins.in_order.1)
  less_by (file ∷ claimed) is holds =
      let all = ap length wins.won_grows ∙ length-append (won old) (newly_won old new) in
      let some : length (newly_won old new) ≡ suc (length claimed) = ap length (sym is) in
      let few = short holds in
      inl (omega (arith, all, some, few))

  pub less_room : HasWon count new → (room new < room old) ⊎ ((room new ≡ room old) × (newly_published old new ≡ []))
  less_room holds = less_by (newly_won old new) refl holds

-- ---- all seats

abbrev pub total_room : ℕ → List ClaimSeat → ℕ
total_room count seats = sum_by (λ seat. count - length (won seat)) seats

pub seats_kept : (count : ℕ) (piece : List FileId) (board : ClaimBoard) (from : ℕ) (olds news : List ClaimSeat) → AllZip (Wins count piece) olds news → AreSeatsFrom board from olds → AreSeatsFrom board from news
seats_kept count piece board from [] [] wins are = tt
seats_kept count piece board from [] (new ∷ news) wins are = absurd wins
seats_kept count piece board from (old ∷ olds) [] wins are = absurd wins
seats_kept count piece board from (old ∷ olds) (new ∷ news) wins are =
    (wins.0.same.0 ∙ are.0, wins.0.same.1 ∙ are.1, seats_kept count piece board (suc from) olds news wins.1 are.2)

-- seats of a board are each of it
pub seats_are : (board : ClaimBoard) (from : ℕ) (seats : List ClaimSeat) → AreSeatsFrom board from seats → AllByRecursion (IsSeatOf board) seats
seats_are board from [] are = tt
seats_are board from (seat ∷ seats) are = (are.0, seats_are board (suc from) seats are.2)

pub seats_of : (count : ℕ) (piece : List FileId) (board : ClaimBoard) (olds news : List ClaimSeat) → AllZip (Wins count piece) olds news → AreSeatsOf board olds → AreSeatsOf board news
seats_of count piece board olds news wins are = (zip-length (Wins count piece) olds news wins ∙ are.0, seats_kept count piece board 0 olds news wins are.1)

-- the records that a seat published in the round are those of their files
abbrev pub AreRecords : (ℕ → ModRecord) → ClaimSeat → ClaimSeat → Type 0
AreRecords record_of old new = AllByRecursion (λ (pair : ℕ × ModRecord). pair.1 ≡ record_of pair.0) (newly_published old new)

-- the first files of a frontier are reached as all are
pub here_reached : (record_of : ℕ → ModRecord) (first : List ℕ) (piece later : List FileId) → AreReached record_of first (numbers_of (piece ++ later)) → AreReached record_of first (numbers_of piece)
here_reached record_of first piece later next = λ set all closed.
    all-left (λ file. IsTrue (set file)) (numbers_of piece) (numbers_of later) (subst (HoldsAll set) (map-append (λ (file : FileId). file.0) piece later) (next set all closed))

module _ (count : ℕ) (piece : List FileId) (within : AllByRecursion (λ (file : FileId). file.0 < count) piece) where
  pub all_won : (olds news : List ClaimSeat) → AllZip (Wins count piece) olds news → AllByRecursion (HasWon count) olds → AllByRecursion HasBuilt olds → AllByRecursion (HasWon count) news
  all_won [] [] wins holds built = tt
  all_won [] (new ∷ news) wins holds built = absurd wins
  all_won (old ∷ olds) [] wins holds built = absurd wins
  all_won (old ∷ olds) (new ∷ news) wins holds built = (won_more count piece within old new wins.0 holds.0 built.0, all_won olds news wins.1 holds.1 built.1)

  pub all_built : (olds news : List ClaimSeat) → AllZip (Wins count piece) olds news → AllZip HasPublishedAll olds news → AllByRecursion HasBuilt olds → AllByRecursion HasBuilt news
  all_built [] [] wins all built = tt
  all_built [] (new ∷ news) wins all built = absurd wins
  all_built (old ∷ olds) [] wins all built = absurd wins
  all_built (old ∷ olds) (new ∷ news) wins all built = (built_more count piece within old new wins.0 built.0 all.0, all_built olds news wins.1 all.1 built.1)

  known_more : (file : ℕ) (olds news : List ClaimSeat) → AllZip (Wins count piece) olds news → is_known file olds ≡ true → is_known file news ≡ true
  known_more file [] [] wins is = is
  known_more file [] (new ∷ news) wins is = absurd wins
  known_more file (old ∷ olds) [] wins is = absurd wins
  known_more file (old ∷ olds) (new ∷ news) wins is = elim (either_true (knows file old) (is_known file olds) is) [
    | inl first ↦ left_true (knows file new) (is_known file news) (knows_more count piece within old new wins.0 file first)
    | inr rest ↦ right_true (knows file new) (is_known file news) (known_more file olds news wins.1 rest)
  ]

  -- a seat as it was, with what it published in the round
  record Was (olds news : List ClaimSeat) (new : ClaimSeat) : Type 0 where
    pub old : ClaimSeat
    pub among : Contains olds old
    pub wins : Wins count piece old new
    pub published : (pair : ℕ × ModRecord) → Contains (newly_published old new) pair → Contains (all_published olds news) pair.1

  second : (pairs : List (ℕ × ModRecord)) (pair : ℕ × ModRecord) → Contains pairs pair → Contains (map (λ (pair : ℕ × ModRecord). pair.1) pairs) pair.1
  second [] pair there = absurd (none_in pair there)
  second (one ∷ pairs) pair there = elim (first_or one pairs pair there) [
    | inl first ↦ subst (Contains (one.1 ∷ map (λ (pair : ℕ × ModRecord). pair.1) pairs)) (ap (λ (pair : ℕ × ModRecord). pair.1) first) (here one.1 (map (λ (pair : ℕ × ModRecord). pair.1) pairs))
    | inr rest ↦ behind one.1 (map (λ (pair : ℕ × ModRecord). pair.1) pairs) pair.1 (second pairs pair rest)
  ]

  was : (olds news : List ClaimSeat) → AllZip (Wins count piece) olds news → (new : ClaimSeat) → Contains news new → Was olds news new
  was [] [] wins seat there = absurd (none_in seat there)
  was [] (new ∷ news) wins seat there = absurd wins
  was (old ∷ olds) [] wins seat there = absurd wins
  was (old ∷ olds) (new ∷ news) wins seat there = elim (first_or new news seat there) [
    | inl first ↦ subst (Was (old ∷ olds) (new ∷ news)) first (record {
      old = old;
      among = here old olds;
      wins = wins.0;
      published = λ pair held. Contains-append_left (map (λ (pair : ℕ × ModRecord). pair.1) (newly_published old new)) (all_published olds news) pair.1 (second (newly_published old new) pair held);
    })
    | inr rest ↦ (
        let one = was olds news wins.1 seat rest in
        record {
          old = one.old;
          among = behind old olds one.old one.among;
          wins = one.wins;
          published = λ pair held. Contains-append_right (map (λ (pair : ℕ × ModRecord). pair.1) (newly_published old new)) (all_published olds news) pair.1 (one.published pair held);
        })
  ]

  named : (records : List ModRecord) (rec : ModRecord) (file : ℕ) → Contains records rec → Contains (targets_of rec) file → Contains (named_by records) file
  named [] rec file there target = absurd (none_in rec there)
  named (one ∷ records) rec file there target = elim (first_or one records rec there) [
    | inl first ↦ Contains-append_left (targets_of one) (named_by records) file (subst (λ rec. Contains (targets_of rec) file) (sym first) target)
    | inr rest ↦ Contains-append_right (targets_of one) (named_by records) file (named records rec file rest target)
  ]

  -- ---- a round that ended well

  module _ (later answer : List FileId) (olds news : List ClaimSeat) (wins : AllZip (Wins count piece) olds news) (done : IsDone count piece olds news answer) where
    abbrev before : List ℕ
    before = numbers_of (piece ++ later)

    abbrev after : List ℕ
    after = numbers_of (later ++ answer)

    after_is : after ≡ numbers_of later ++ numbers_of answer
    after_is = map-append (λ (file : FileId). file.0) later answer

    of_later : (file : ℕ) → Contains (numbers_of later) file → Contains after file
    of_later file there = subst (λ files. Contains files file) (sym after_is) (Contains-append_left (numbers_of later) (numbers_of answer) file there)

    of_answer : (file : ℕ) → Contains (numbers_of answer) file → Contains after file
    of_answer file there = subst (λ files. Contains files file) (sym after_is) (Contains-append_right (numbers_of later) (numbers_of answer) file there)

    met_more : (file : ℕ) → IsMet before olds file → IsMet after news file
    met_more file (inl there) = elim (Contains-append_cases (numbers_of piece) (numbers_of later) file (subst (λ files. Contains files file) (map-append (λ (file : FileId). file.0) piece later) there)) [
      | inl first ↦ inr (all-in (λ file. IsTrue (is_known file news)) (numbers_of piece) file (all-map (λ file. IsTrue (is_known file news)) (λ (file : FileId). file.0) piece done.known) first)
      | inr rest ↦ inl (of_later file rest)
    ]
    met_more file (inr known) = inr (known_more file olds news wins known)

    met_named : (file : ℕ) → Contains (named_by (all_published olds news)) file → IsMet after news file
    met_named file there = elim (all-in (λ file. Contains (map (λ (kept : FileId). kept.0) answer) file ⊎ IsTrue (is_known file news)) (named_by (all_published olds news)) file done.all_named there) [
      | inl kept ↦ inl (of_answer file kept)
      | inr known ↦ inr known
    ]

    pub all_met : (first : List ℕ) → AreMet first before olds → AreMet first after news
    all_met first met = record {
      firsts = all-kept (IsMet before olds) (IsMet after news) met_more first met.firsts;
      targets = λ seat among file rec there.
          let one = was olds news wins seat among in
          elim (Contains-append_cases (published one.old) (newly_published one.old seat) (file, rec) (subst (λ pairs. Contains pairs (file, rec)) one.wins.published_grows there)) [
            | inl old ↦ all-kept (IsMet before olds) (IsMet after news) met_more (targets_of rec) (met.targets one.old one.among file rec old)
            | inr new ↦ all-from (IsMet after news) (targets_of rec) (λ target held. met_named target (named (all_published olds news) rec target (one.published (file, rec) new) held))
          ];
    }

    -- the measure of the rounds
    less_all : (olds news : List ClaimSeat) → AllZip (Wins count piece) olds news → AllByRecursion (HasWon count) news
        → (total_room count news < total_room count olds) ⊎ ((total_room count news ≡ total_room count olds) × (all_published olds news ≡ []))
    less_all [] [] wins holds = inr (refl, refl)
    less_all [] (new ∷ news) wins holds = absurd wins
    less_all (old ∷ olds) [] wins holds = absurd wins
    less_all (old ∷ olds) (new ∷ news) wins holds =
        let olds_sum = sum_by-cons (λ (seat : ClaimSeat). count - length (won seat)) old olds in
        let news_sum = sum_by-cons (λ (seat : ClaimSeat). count - length (won seat)) new news in
        elim (less_room count piece within old new wins.0 holds.0) [
          | inl less ↦ elim (less_all olds news wins.1 holds.1) [
            | inl more ↦ inl (omega (arith, olds_sum, news_sum, less, more))
            | inr same ↦ inl (omega (arith, olds_sum, news_sum, less, same.0))
          ]
          | inr same ↦ elim (less_all olds news wins.1 holds.1) [
            | inl more ↦ inl (omega (arith, olds_sum, news_sum, same.0, more))
            | inr rest ↦ inr (omega (arith, olds_sum, news_sum, same.0, rest.0), ap (λ pairs. map (λ (pair : ℕ × ModRecord). pair.1) pairs ++ all_published olds news) same.1 ∙ rest.1)
          ]
        ]

    nothing_named : (files : List FileId) → AllByRecursion (λ (file : FileId). Contains [] file.0) files → files ≡ []
    nothing_named [] all = refl
    nothing_named (file ∷ files) all = absurd (none_in file.0 all.0)

    pub less : AllByRecursion (HasWon count) news → (total_room count news < total_room count olds) ⊎ ((total_room count news ≡ total_room count olds) × (answer ≡ []))
    less holds = elim (less_all olds news wins holds) [
      | inl more ↦ inl more
      | inr same ↦ inr (same.0, nothing_named answer (subst (λ records. AllByRecursion (λ (file : FileId). Contains (named_by records) file.0) answer) same.1 done.named))
    ]

  -- ---- what the tree tells

  module _ (record_of : ℕ → ModRecord) (first : List ℕ) (olds news : List ClaimSeat) (wins : AllZip (Wins count piece) olds news) where
    records_at : (olds news : List ClaimSeat) → AllZip (Wins count piece) olds news → AllZip (AreRecords record_of) olds news → (new : ClaimSeat) → Contains news new → (old : ClaimSeat) × Contains olds old × Wins count piece old new × AreRecords record_of old new
    records_at [] [] wins are seat there = absurd (none_in seat there)
    records_at [] (new ∷ news) wins are seat there = absurd wins
    records_at (old ∷ olds) [] wins are seat there = absurd wins
    records_at (old ∷ olds) (new ∷ news) wins are seat there = elim (first_or new news seat there) [
      | inl first ↦ subst (λ (seat : ClaimSeat). (one : ClaimSeat) × Contains (old ∷ olds) one × Wins count piece one seat × AreRecords record_of one seat) first (old, here old olds, wins.0, are.0)
      | inr rest ↦ (let one = records_at olds news wins.1 are.1 seat rest in (one.0, behind old olds one.0 one.1, one.2, one.3))
    ]

    won_held : (held : ℕ → Bool) (olds news : List ClaimSeat) → AllZip (Wins count piece) olds news → HoldsAll held (numbers_of piece) → AllByRecursion (λ (seat : ClaimSeat). HoldsAll held (won seat)) olds → AllByRecursion (λ (seat : ClaimSeat). HoldsAll held (won seat)) news
    won_held held [] [] wins all each = tt
    won_held held [] (new ∷ news) wins all each = absurd wins
    won_held held (old ∷ olds) [] wins all each = absurd wins
    won_held held (old ∷ olds) (new ∷ news) wins all each = (
      subst (HoldsAll held) (sym wins.0.won_grows)
          (all-append (λ file. IsTrue (held file)) (won old) (newly_won old new) each.0
          (all-kept (Contains (numbers_of piece)) (λ file. IsTrue (held file)) (λ file there. all-in (λ file. IsTrue (held file)) (numbers_of piece) file all there) (newly_won old new) wins.0.of_frontier)),
      won_held held olds news wins.1 all each.1,
    )

    pub made_more : AreMade record_of first olds → AreReached record_of first (numbers_of piece) → AllZip (AreRecords record_of) olds news → AreMade record_of first news
    made_more made next are = record {
      records = λ seat among file rec there.
          let one = records_at olds news wins are seat among in
          elim (Contains-append_cases (published one.0) (newly_published one.0 seat) (file, rec) (subst (λ pairs. Contains pairs (file, rec)) one.2.published_grows there)) [
            | inl old ↦ made.records one.0 one.1 file rec old
            | inr new ↦ all-in (λ (pair : ℕ × ModRecord). pair.1 ≡ record_of pair.0) (newly_published one.0 seat) (file, rec) one.3 new
          ];
      reached = λ set all closed. won_held set olds news wins (next set all closed) (made.reached set all closed);
    }

    targets_held : (held : ℕ → Bool) → IsClosed (targets_by record_of) held → HoldsAll held (numbers_of piece) → (olds news : List ClaimSeat) → AllZip (Wins count piece) olds news → AllZip (AreRecords record_of) olds news
        → AllByRecursion (λ (rec : ModRecord). HoldsAll held (targets_of rec)) (all_published olds news)
    targets_held held closed all [] [] wins are = tt
    targets_held held closed all [] (new ∷ news) wins are = absurd wins
    targets_held held closed all (old ∷ olds) [] wins are = absurd wins
    targets_held held closed all (old ∷ olds) (new ∷ news) wins are =
        all-append (λ (rec : ModRecord). HoldsAll held (targets_of rec)) (map (λ (pair : ℕ × ModRecord). pair.1) (newly_published old new)) (all_published olds news)
        (all-map (λ (rec : ModRecord). HoldsAll held (targets_of rec)) (λ (pair : ℕ × ModRecord). pair.1) (newly_published old new)
        (all-from (λ (pair : ℕ × ModRecord). HoldsAll held (targets_of pair.1)) (newly_published old new) (λ pair there.
        let is = all-in (λ (pair : ℕ × ModRecord). pair.1 ≡ record_of pair.0) (newly_published old new) pair are.0 there in
        subst (λ (rec : ModRecord). HoldsAll held (targets_of rec)) (sym is) (closed pair.0 (published_of_piece count piece within old new wins.0 pair.0 pair.1 there held all)))))
        (targets_held held closed all olds news wins.1 are.1)

    pub next_more : (later answer : List FileId) → IsDone count piece olds news answer → AreReached record_of first (numbers_of (piece ++ later)) → AllZip (AreRecords record_of) olds news → AreReached record_of first (numbers_of (later ++ answer))
    next_more later answer done next are = λ set all closed.
        let both = subst (HoldsAll set) (map-append (λ (file : FileId). file.0) piece later) (next set all closed) in
        let here = all-left (λ file. IsTrue (set file)) (numbers_of piece) (numbers_of later) both in
        let behind = all-right (λ file. IsTrue (set file)) (numbers_of piece) (numbers_of later) both in
        let targets = all-flat (λ file. IsTrue (set file)) targets_of (all_published olds news) (targets_held set closed here olds news wins are) in
        let named = all-map (λ file. IsTrue (set file)) (λ (file : FileId). file.0) answer
        (all-kept (λ (file : FileId). Contains (named_by (all_published olds news)) file.0) (λ (file : FileId). IsTrue (set file.0)) (λ file there. all-in (λ file. IsTrue (set file)) (named_by (all_published olds news)) file.0 targets there) answer done.named) in
        subst (HoldsAll set) (sym (map-append (λ (file : FileId). file.0) later answer)) (all-append (λ file. IsTrue (set file)) (numbers_of later) (numbers_of answer) behind named)
