-- What a closed board tells: the words, the slots and the seats' lists say the same.
use Rattle.std.proofs.Common.{◌≡◌, ◌≢◌, ◌⊎◌, ℕ, zero, suc, ◌+◌, ◌-◌, ◌*◌, ◌/◌, ◌<◌, ◌≤◌, Bool, true, false, cond, ◌==◌, ne_eqb, eqb-true, List, [], ◌∷◌, ◌++◌, length, map, refl, sym, ap, subst, ◌∙◌, inl, inr, ⊎_elim, arith}
use Rattle.std.specs.Prelude.{Option, Some, None, IsSome, IsSomeAnd, slice_get, Contains, find, flat_map, count_by, option_map}
use Rattle.std.proofs.lemmas.List.Sums.{sum_by-cons}
use mathlib.Core.Option.{some, some-injective, some-ne-none}
use mathlib.Core.Option as maybe
use lib.ListN.{get_elem?, length-map}
use native.Mathlib.Decide.{dec_le}
use Rattle.atomic_table.specs.Table.{Final, Seen}
use Rattle.atomic_table.specs.Seated.{TableId}
use Rattle.atomic_table.proofs.Lists.{at_map, at_index}
use Rattle.graph_types.specs.declared.record.ModRecord.{ModRecord}
use Rattle.board_seats.specs.Seats.{Seated, numbered}
use Rattle.board_seats.proofs.Lists.{below_length, get_or_at}
use Rattle.board_seats.proofs.Steps.{knows}
use Rattle.claim_board.specs.declared.board.ClaimBoard.{ClaimBoard}
use Rattle.claim_board.specs.declared.lists.Lists.{Lists}
use Rattle.claim_board.specs.declared.seat.ClaimSeat.{ClaimSeat}
use Rattle.claim_board.specs.Lists.{is_in, is_seen, record_in}
use Rattle.claim_board.specs.Claims.{lists_of, number, won, published, seen, seen_published, AreInside, IsSeatOf, AreSeatsFrom}
use Rattle.claim_board.specs.Closing.{winner, owner_among, record_among, WasToldTrue, Closes}
use Rattle.claim_board.specs.Shown.{owner_shown}
use Rattle.claim_board.specs.Rule.{Stage, unclaimed, owned, done, word_of, owns, is_done, record_by, OwnerBelow, Fits, IsOut, IsHome, IsKept}
use Rattle.claim_board.proofs.Found.{false≢true, other_file, same_file}

abbrev one_if : Bool → ℕ
one_if b = cond b 1 0

-- ---- lists with one member that passes a test

module _ {X : Type 0} where
  pub there : (xs : List X) (k : ℕ) → k < length xs → (x : X) × (get_elem? xs k ≡ some x)
  there [] k h = absurd (omega arith)
  there (x ∷ xs) zero h = (x, refl)
  there (x ∷ xs) (suc k) h = there xs k (omega arith)

  find_none : (test : X → Bool) (xs : List X) → ((j : ℕ) (y : X) → get_elem? xs j ≡ some y → test y ≡ false) → find test xs ≡ None
  find_none test [] miss = refl
  find_none test (x ∷ xs) miss = ap (λ (b : Bool). cond b (Some x) (find test xs)) (miss 0 x refl) ∙ find_none test xs (λ j y e. miss (suc j) y e)

  find_at : (test : X → Bool) (xs : List X) (k : ℕ) (x : X) → get_elem? xs k ≡ some x → test x ≡ true → ((j : ℕ) (y : X) → j ≢ k → get_elem? xs j ≡ some y → test y ≡ false) → find test xs ≡ Some x
  find_at test [] k x e hit miss = absurd (some-ne-none x (sym e))
  find_at test (y ∷ ys) zero x e hit miss =
      let same = some-injective y x e in
      ap (λ (b : Bool). cond b (Some y) (find test ys)) (ap test same ∙ hit) ∙ ap (λ (z : X). Some z) same
  find_at test (y ∷ ys) (suc k) x e hit miss =
      ap (λ (b : Bool). cond b (Some y) (find test ys)) (miss 0 y (λ (q : 0 ≡ suc k). omega arith) refl)
      ∙ find_at test ys k x e hit (λ j z ne q. miss (suc j) z (λ (r : suc j ≡ suc k). ne (omega arith)) q)

  count_none : (test : X → Bool) (xs : List X) → ((j : ℕ) (y : X) → get_elem? xs j ≡ some y → test y ≡ false) → count_by test xs ≡ 0
  count_none test [] miss = refl
  count_none test (x ∷ xs) miss =
      let rest : count_by test xs ≡ 0 = count_none test xs (λ j y e. miss (suc j) y e) in
      sum_by-cons (λ (y : X). cond (test y) 1 0) x xs ∙ ap (λ (b : Bool). cond b 1 0 + count_by test xs) (miss 0 x refl) ∙ (omega arith)

  count_at : (test : X → Bool) (xs : List X) (k : ℕ) → ((j : ℕ) (y : X) → j ≢ k → get_elem? xs j ≡ some y → test y ≡ false) → count_by test xs ≤ 1
  count_at test [] k miss = omega arith
  count_at test (x ∷ xs) zero miss =
      let rest : count_by test xs ≡ 0 = count_none test xs (λ j y e. miss (suc j) y (λ (r : suc j ≡ 0). omega arith) e) in
      let sum = sum_by-cons (λ (y : X). cond (test y) 1 0) x xs in
      let one = at_most_one (test x) in omega arith
    where
      at_most_one : (b : Bool) → cond b 1 0 ≤ 1
      at_most_one true = omega arith
      at_most_one false = omega arith
  count_at test (x ∷ xs) (suc k) miss =
      let rest : count_by test xs ≤ 1 = count_at test xs k (λ j y ne e. miss (suc j) y (λ (r : suc j ≡ suc k). ne (omega arith)) e) in
      let sum = sum_by-cons (λ (y : X). cond (test y) 1 0) x xs in
      let none : one_if (test x) ≡ 0 = ap one_if (miss 0 x (λ (r : 0 ≡ suc k). omega arith) refl) in omega arith

  pub get_as : (xs : List X) (k : ℕ) (x : X) → get_elem? xs k ≡ some x → slice_get xs k ≡ Some x
  get_as [] k x e = absurd (some-ne-none x (sym e))
  get_as (y ∷ ys) zero x e = ap (λ (z : X). Some z) (some-injective y x e)
  get_as (y ∷ ys) (suc k) x e = get_as ys k x e

module _ {T : Type 0} where
  record_later : (file : ℕ) (xs ys : List (ℕ × T)) → record_in file xs ≡ None → record_in file (xs ++ ys) ≡ record_in file ys
  record_later file [] ys e = refl
  record_later file (x ∷ xs) ys e = head (x.0 == file) e (record_later file xs ys)
    where
      head : (b : Bool) → cond b (Some x.1) (record_in file xs) ≡ None → (record_in file xs ≡ None → record_in file (xs ++ ys) ≡ record_in file ys) → cond b (Some x.1) (record_in file (xs ++ ys)) ≡ record_in file ys
      head true e next = absurd (cc)
      head false e next = next e

  record_first : (file : ℕ) (rec : T) (xs ys : List (ℕ × T)) → record_in file xs ≡ Some rec → record_in file (xs ++ ys) ≡ Some rec
  record_first file rec [] ys e = absurd (cc)
  record_first file rec (x ∷ xs) ys e = head (x.0 == file) e (record_first file rec xs ys)
    where
      head : (b : Bool) → cond b (Some x.1) (record_in file xs) ≡ Some rec → (record_in file xs ≡ Some rec → record_in file (xs ++ ys) ≡ Some rec) → cond b (Some x.1) (record_in file (xs ++ ys)) ≡ Some rec
      head true e next = e
      head false e next = next e

  module _ {X : Type 0} (g : X → List (ℕ × T)) (file : ℕ) where
    records_none : (xs : List X) → ((j : ℕ) (y : X) → get_elem? xs j ≡ some y → record_in file (g y) ≡ None) → record_in file (flat_map g xs) ≡ None
    records_none [] miss = refl
    records_none (x ∷ xs) miss = record_later file (g x) (flat_map g xs) (miss 0 x refl) ∙ records_none xs (λ j y e. miss (suc j) y e)

    records_at : (rec : T) (xs : List X) (k : ℕ) (x : X) → get_elem? xs k ≡ some x → record_in file (g x) ≡ Some rec → ((j : ℕ) (y : X) → j ≢ k → get_elem? xs j ≡ some y → record_in file (g y) ≡ None)
        → record_in file (flat_map g xs) ≡ Some rec
    records_at rec [] k x e hit miss = absurd (some-ne-none x (sym e))
    records_at rec (y ∷ ys) zero x e hit miss = record_first file rec (g y) (flat_map g ys) (ap (λ (z : X). record_in file (g z)) (some-injective y x e) ∙ hit)
    records_at rec (y ∷ ys) (suc k) x e hit miss =
        record_later file (g y) (flat_map g ys) (miss 0 y (λ (r : 0 ≡ suc k). omega arith) refl) ∙ records_at rec ys k x e hit (λ j z ne q. miss (suc j) z (λ (r : suc j ≡ suc k). ne (omega arith)) q)

-- ---- the seats

seat_at : (board : ClaimBoard) (from : ℕ) (seats : List ClaimSeat) → AreSeatsFrom board from seats → (j : ℕ) (seat : ClaimSeat) → get_elem? seats j ≡ some seat → IsSeatOf board seat × (seat.number ≡ from + j)
seat_at board from [] are j seat e = absurd (some-ne-none seat (sym e))
seat_at board from (x ∷ xs) are zero seat e =
    subst (λ (s : ClaimSeat). IsSeatOf board s × (s.number ≡ from + 0)) (some-injective x seat e) (are.0, are.1 ∙ omega arith)
seat_at board from (x ∷ xs) are (suc j) seat e = let h = seat_at board (suc from) xs are.2 j seat e in let n = h.1 in (h.0, omega arith)

module _ (files seats : ℕ) (words : List ℕ) (homes : List (maybe.Option (Option ModRecord))) (all : List ClaimSeat)
    (kept : IsKept files seats words homes (map lists_of all))
    (numbers : (j : ℕ) (seat : ClaimSeat) → get_elem? all j ≡ some seat → seat.number ≡ j)
    (inside : (j : ℕ) (seat : ClaimSeat) → get_elem? all j ≡ some seat → ((file : ℕ) → is_in file (won seat) ≡ true → file < files) × ((file owner : ℕ) → is_seen file owner (seen seat) ≡ true → file < files) × ((file : ℕ) → is_in file (seen_published seat) ≡ true → file < files))
  where
    fits_at : (file : ℕ) → file < files → (j : ℕ) (seat : ClaimSeat) → get_elem? all j ≡ some seat → Fits j file (kept.stage file) (lists_of seat)
    fits_at file below j seat e = (kept.each file below).fits j (lists_of seat) (at_map lists_of all j seat e)

    as_many : length all ≡ seats
    as_many = sym (length-map all lists_of) ∙ kept.as_many

    -- of a file with an owner: that seat is the one that claimed it
    owner_at : (file owner : ℕ) (stage : Stage ModRecord) → kept.stage file ≡ stage → file < files → owner < seats → ((seat : ℕ) → owns seat stage ≡ (owner == seat))
        → (x : ClaimSeat) × (get_elem? all owner ≡ some x) × (winner file all ≡ Some x) × (owner_among file all ≡ Some owner)
    owner_at file owner stage is below room own =
        let x = there all owner (subst (λ (n : ℕ). owner < n) (sym as_many) room) in
        let w : winner file all ≡ Some x.0 = find_at (λ (s : ClaimSeat). is_in file (won s)) all owner x.0 x.1
        ((fits_at file below owner x.0 x.1).won ∙ ap (owns owner) is ∙ own owner ∙ same_file owner)
        (λ j y ne e. (fits_at file below j y e).won ∙ ap (owns j) is ∙ own j ∙ other_file owner j ne) in
        (x.0, x.1, w, ap (option_map number) w ∙ ap (λ (n : ℕ). Some n) (numbers owner x.0 x.1))

    nobody : (file : ℕ) → kept.stage file ≡ unclaimed → file < files → owner_among file all ≡ None
    nobody file is below = ap (option_map number) (find_none (λ (s : ClaimSeat). is_in file (won s)) all (λ j y e. (fits_at file below j y e).won ∙ ap (owns j) is))

    once_at : (file : ℕ) → file < files → (stage : Stage ModRecord) → kept.stage file ≡ stage → count_by (λ seat. is_in file (won seat)) all ≤ 1
    once_at file below unclaimed is = count_at (λ (s : ClaimSeat). is_in file (won s)) all 0 (λ j y ne e. (fits_at file below j y e).won ∙ ap (owns j) is)
    once_at file below (owned owner) is = count_at (λ (s : ClaimSeat). is_in file (won s)) all owner (λ j y ne e. (fits_at file below j y e).won ∙ ap (owns j) is ∙ other_file owner j ne)
    once_at file below (done owner rec) is = count_at (λ (s : ClaimSeat). is_in file (won s)) all owner (λ j y ne e. (fits_at file below j y e).won ∙ ap (owns j) is ∙ other_file owner j ne)

    -- a file that is none of the board's was claimed by nobody
    not_won : (file : ℕ) → files ≤ file → (j : ℕ) (seat : ClaimSeat) → get_elem? all j ≡ some seat → is_in file (won seat) ≡ false
    not_won file above j seat e = outside (is_in file (won seat)) refl
      where
        outside : (b : Bool) → is_in file (won seat) ≡ b → b ≡ false
        outside true q = let below = (inside j seat e).0 file q in absurd (omega arith)
        outside false q = refl

    once : (file : ℕ) → count_by (λ seat. is_in file (won seat)) all ≤ 1
    once file = by (dec_le files file)
      where
        by : Dec (files ≤ file) → count_by (λ seat. is_in file (won seat)) all ≤ 1
        by (yes above) = count_at (λ (s : ClaimSeat). is_in file (won s)) all 0 (λ j y ne e. not_won file above j y e)
        by (no below) = once_at file (omega arith) (kept.stage file) refl

    -- a seat was told an owner that owns the file
    told_owner : (file owner : ℕ) (stage : Stage ModRecord) → kept.stage file ≡ stage → file < files → OwnerBelow seats stage → owns owner stage ≡ true → owner_among file all ≡ Some owner
    told_owner file owner unclaimed is below room own = absurd (false≢true own)
    told_owner file owner (owned o) is below room own = (owner_at file o (owned o) is below room (λ _. refl)).3 ∙ ap (λ (n : ℕ). Some n) (eqb-true o owner own)
    told_owner file owner (done o rec) is below room own = (owner_at file o (done o rec) is below room (λ _. refl)).3 ∙ ap (λ (n : ℕ). Some n) (eqb-true o owner own)

    some_and : {X : Type 0} (o : Option X) (x : X) (P : X → Type 0) → o ≡ Some x → P x → IsSomeAnd o P
    some_and o x P e p = subst (λ (y : Option _). IsSomeAnd y P) (sym e) p

    has_some : {X : Type 0} (o : Option X) (x : X) → o ≡ Some x → IsSome o
    has_some o x e = subst (λ (y : Option _). IsSome y) (sym e) refl

    -- the record that a seat published of a file
    record_of : (file owner : ℕ) (rec : ModRecord) → kept.stage file ≡ done owner rec → file < files → (x : ClaimSeat) → get_elem? all owner ≡ some x → record_in file (published x) ≡ Some rec
    record_of file owner rec is below x e =
        (fits_at file below owner x e).published ∙ ap (record_by owner) is ∙ ap (λ (b : Bool). cond b (Some rec) None) (same_file owner)

    told_record : (file : ℕ) (stage : Stage ModRecord) → kept.stage file ≡ stage → file < files → OwnerBelow seats stage → is_done stage ≡ true
        → IsSomeAnd (winner file all) (λ owner. IsSome (record_in file (published owner)))
    told_record file unclaimed is below room end = absurd (false≢true end)
    told_record file (owned o) is below room end = absurd (false≢true end)
    told_record file (done o rec) is below room end =
        let w = owner_at file o (done o rec) is below room (λ _. refl) in
        some_and (winner file all) w.0 (λ owner. IsSome (record_in file (published owner))) w.2 (has_some _ rec (record_of file o rec is below w.0 w.1))

    told : (seat : ClaimSeat) → Contains all seat → WasToldTrue all seat
    told seat has =
        let e : get_elem? all has.0 ≡ some seat = at_index all has.0 seat has.1 (sym has.2) in record {
          owners = λ file owner q.
              let below = (inside has.0 seat e).1 file owner q in
              told_owner file owner (kept.stage file) refl below (kept.each file below).below ((fits_at file below has.0 seat e).seen owner q);
          records = λ file q.
              let below = (inside has.0 seat e).2 file q in
              told_record file (kept.stage file) refl below (kept.each file below).below ((fits_at file below has.0 seat e).seen_published q);
        }

    -- ---- the answer

    owner_told : (file : ℕ) → file < files → (stage : Stage ModRecord) → kept.stage file ≡ stage → OwnerBelow seats stage → owner_shown (word_of stage) ≡ owner_among file all
    owner_told file below unclaimed is room = sym (nobody file is below)
    owner_told file below (owned o) is room =
        let who : 2 * (o + 1) / 2 - 1 ≡ o = omega arith in
        ap (λ (b : Bool). cond b None (Some (2 * (o + 1) / 2 - 1))) (ne_eqb (2 * (o + 1)) 0 (λ e. omega arith)) ∙ ap (λ (n : ℕ). Some n) who ∙ sym (owner_at file o (owned o) is below room (λ _. refl)).3
    owner_told file below (done o rec) is room =
        let who : (2 * (o + 1) + 1) / 2 - 1 ≡ o = omega arith in
        ap (λ (b : Bool). cond b None (Some ((2 * (o + 1) + 1) / 2 - 1))) (ne_eqb (2 * (o + 1) + 1) 0 (λ e. omega arith)) ∙ ap (λ (n : ℕ). Some n) who ∙ sym (owner_at file o (done o rec) is below room (λ _. refl)).3

    module _ (idle : (j : ℕ) (seat : ClaimSeat) → get_elem? all j ≡ some seat → (lists_of seat).out ≡ []) where
      at_book : (j : ℕ) (lists : Lists ModRecord) → get_elem? (map lists_of all) j ≡ some lists → lists.out ≡ []
      at_book j lists e =
          let long = length-map all lists_of in
          let room = below_length (map lists_of all) j lists e in
          let x = there all j (omega arith) in
          let same : lists_of x.0 ≡ lists = some-injective (lists_of x.0) lists (sym (at_map lists_of all j x.0 x.1) ∙ e) in
          sym (ap (λ (l : Lists ModRecord). l.out) same) ∙ idle j x.0 x.1

      none_out : (file : ℕ) → IsOut (map lists_of all) file → ⊥
      none_out file out = false≢true (ap (is_in file) (sym (at_book out.0 out.1 out.2)) ∙ out.3)

      no_record : (file : ℕ) (stage : Stage ModRecord) → kept.stage file ≡ stage → file < files → ((seat : ℕ) → record_by seat stage ≡ None) → record_among file all ≡ None
      no_record file stage is below none = records_none published file all (λ j y e. (fits_at file below j y e).published ∙ ap (record_by j) is ∙ none j)

      slot_told : (file : ℕ) → file < files → (stage : Stage ModRecord) → kept.stage file ≡ stage → OwnerBelow seats stage → IsHome homes (map lists_of all) file stage
          → get_elem? homes file ≡ some (some (record_among file all))
      slot_told file below unclaimed is room home =
          ⊎_elim (λ (e : get_elem? homes file ≡ some (some None)). e) (λ (o : IsOut (map lists_of all) file). absurd (none_out file o)) home
          ∙ ap (λ (r : Option ModRecord). some (some r)) (sym (no_record file unclaimed is below (λ _. refl)))
      slot_told file below (owned o) is room home =
          ⊎_elim (λ (e : get_elem? homes file ≡ some (some None)). e) (λ (out : IsOut (map lists_of all) file). absurd (none_out file out)) home
          ∙ ap (λ (r : Option ModRecord). some (some r)) (sym (no_record file (owned o) is below (λ _. refl)))
      slot_told file below (done o rec) is room home =
          let w = owner_at file o (done o rec) is below room (λ _. refl) in
          home ∙ ap (λ (r : Option ModRecord). some (some r)) (sym (records_at published file rec all o w.0 w.1 (record_of file o rec is below w.0 w.1)
          (λ j y ne e. (fits_at file below j y e).published ∙ ap (record_by j) is ∙ ap (λ (b : Bool). cond b (Some rec) None) (other_file o j ne))))

      pub closes : (owners : List (Option ℕ)) (slots : List (Option ModRecord)) → length owners ≡ files
          → ((file word : ℕ) → file < files → get_elem? words (file + 1) ≡ some word → get_elem? owners file ≡ some (owner_shown word))
          → length homes ≡ length slots → ((file : ℕ) (slot : Option ModRecord) → get_elem? homes file ≡ some (some slot) → get_elem? slots file ≡ some slot)
          → Closes files all owners slots
      closes owners slots long shown deep home = record {
        once = once;
        told = told;
        as_many_owners = long;
        as_many_records = sym deep ∙ kept.deep;
        owner = λ file below.
            let wide = kept.wide in
            let w = there words (file + 1) (omega arith) in
            let is = kept.each file below in
            let word : w.0 ≡ word_of (kept.stage file) = sym (get_or_at words (file + 1) w.0 0 w.1) ∙ is.word_is in
            get_as owners file _ (shown file w.0 below w.1) ∙ ap (λ (n : ℕ). Some (owner_shown n)) word ∙ ap (λ (o : Option ℕ). Some o) (owner_told file below (kept.stage file) refl is.below);
        recorded = λ file below. let is = kept.each file below in get_as slots file _ (home file _ (slot_told file below (kept.stage file) refl is.below is.home));
      }

-- a word of the board names no owner beyond its seats
pub words_fit : {T : Type 0} (files seats : ℕ) (words : List ℕ) (homes : List (maybe.Option (Option T))) (book : List (Lists T)) → IsKept files seats words homes book
    → (file word : ℕ) → file < files → get_elem? words (file + 1) ≡ some word → (word ≡ 0) ⊎ ((2 ≤ word) × (word / 2 - 1 < 4294967296))
words_fit {T} files seats words homes book kept file word below e =
    let is = kept.each file below in
    let few = kept.few in
    at (kept.stage file) (sym (get_or_at words (file + 1) word 0 e) ∙ is.word_is) is.below few
  where
    at : (stage : Stage T) → word ≡ word_of stage → OwnerBelow seats stage → seats ≤ 4294967295 → (word ≡ 0) ⊎ ((2 ≤ word) × (word / 2 - 1 < 4294967296))
    at unclaimed w room few = inl w
    at (owned o) w room few = let h : o < seats = room in inr (omega arith, omega arith)
    at (done o rec) w room few = let h : o < seats = room in inr (omega arith, omega arith)

-- ---- the closed table

-- the last state, by the seats' lists
pub last_state : (files seats : ℕ) (key : ℕ × ℕ) → key ≡ (files, seats) → (token : ℕ) (words : List ℕ) (slots : List (Option ModRecord)) (view : List (ℕ × Lists ModRecord)) (all : List ClaimSeat)
    → Final (Seen (Seated (IsKept {T = ModRecord} key.0 key.1)) token view) words slots → view ≡ numbered 0 (map lists_of all) → length all ≡ seats
    → (homes : List (maybe.Option (Option ModRecord))) × IsKept files seats words homes (map lists_of all) × (length homes ≡ length slots)
    × ((file : ℕ) (slot : Option ModRecord) → get_elem? homes file ≡ some (some slot) → get_elem? slots file ≡ some slot)
last_state files seats key keyed token words slots view all closed is many =
    let final = subst (λ (k : ℕ × ℕ). Final (Seen (Seated (IsKept {T = ModRecord} k.0 k.1)) token view) words slots) keyed closed in
    let s = final.0 in
    let held = final.1.0 in
    let at : get_elem? s.views token ≡ some (numbered 0 (map lists_of all)) = final.1.1 ∙ ap (λ (l : List (ℕ × Lists ModRecord)). some l) is in
    let wide : length held.book ≡ length (map lists_of all) = held.ruled.as_many ∙ sym many ∙ sym (length-map all lists_of) in
    let kept = knows (IsKept {T = ModRecord} files seats) s token (map lists_of all) held at wide in
    (s.homes, subst (λ (w : List ℕ). IsKept files seats w s.homes (map lists_of all)) final.2 kept, final.3, final.4)

-- the numbers of all seats of the board
pub numbers_of : (board : ClaimBoard) (all : List ClaimSeat) → AreSeatsFrom board 0 all → (j : ℕ) (seat : ClaimSeat) → get_elem? all j ≡ some seat → seat.number ≡ j
numbers_of board all are j seat e = let n = (seat_at board 0 all are j seat e).1 in omega arith

-- the files that the seats speak of are the board's
pub inside_of : (board : ClaimBoard) (all : List ClaimSeat) → AreSeatsFrom board 0 all → (j : ℕ) (seat : ClaimSeat) → get_elem? all j ≡ some seat → AreInside board.files (lists_of seat)
inside_of board all are j seat e =
    let slots : seat.token.table_id.slots ≡ board.files = ap (λ (t : TableId). t.slots) (seat_at board 0 all are j seat e).0 ∙ board.sized.1 in
    subst (λ (n : ℕ). AreInside n (lists_of seat)) slots seat.inside
