-- Who read what: each reader the files of its seat.
use Rattle.std.proofs.Common.{◌≡◌, ℕ, suc, ◌+◌, ◌≤◌, Bool, true, false, cond, List, [], ◌∷◌, ◌++◌, length, map, refl, sym, ap, subst, ◌∙◌, inl, inr, arith}
use Rattle.std.proofs.lemmas.Cmp.{nat_eq_equiv}
use Rattle.std.proofs.lemmas.List.Elements.{Contains-append_cases}
use Rattle.std.proofs.lemmas.List.Sorted.{Contains-permutation, IsPermutation-append, IsPermutation-map, IsPermutation-middle, IsPermutation-refl, IsPermutation-sym, IsPermutation-trans}
use Rattle.std.proofs.lemmas.Map.Keys.{IsDistinct-IsPermutation, IsDistinct-head, IsDistinct-tail}
use Rattle.std.specs.List.{AllByRecursion, AllZip, IsDistinct, slice_get}
use Rattle.std.specs.Prelude.{nat_eq, Contains, IsPermutation, IsTrue, Option, Some, None, flat_map, is_some}
use Rattle.build_round.specs.Rounds.{ReadsWon, numbers_in}
use Rattle.claim_board.specs.Claims.{AreSeatsFrom, number, published, won}
use Rattle.claim_board.specs.Closing.{Closes}
use Rattle.claim_board.specs.Lists.{is_in}
use Rattle.claim_board.specs.declared.board.ClaimBoard.{ClaimBoard}
use Rattle.claim_board.specs.declared.seat.ClaimSeat.{ClaimSeat}
use Rattle.graph_types.specs.Reached.{HoldsAll}
use Rattle.graph_types.specs.declared.record.ModRecord.{ModRecord}
use Rattle.module_build.specs.Reads.{file_path}
use Rattle.outside.specs.Logs.{Gains, module_paths}
use Rattle.outside.specs.Tree.{Tree}
use Rattle.outside.specs.Views.{ReaderView}
use Rattle.outside.specs.declared.entry.Why.{Why}
use Rattle.make_rounds.specs.Make.{EachReadsOwn, files_where, is_owner}
use Rattle.make_rounds.specs.inner.Growing.{EachReads, HasBuilt, HasRead, HasReadNone, HasWon}
use Rattle.make_rounds.specs.inner.Places.{places_where}
use Rattle.make_rounds.proofs.Lists.{all-from, all-in, any_left, behind, distinct-append, first_or, from_in, here, in_from, itself, none_in, same}
use Rattle.make_rounds.proofs.Members.{few_behind, member, none_behind, numbered_below, one_seat, owner_at, owner_claimed, owner_of, is_member, places_of, to_flat, winners}
use Rattle.make_rounds.proofs.Orders.{distinct-front, distinct_none}
use Rattle.make_rounds.proofs.Reading.{IsOwn}
use Rattle.make_rounds.proofs.Rows.{is_place, of_place, places_distinct}

-- ---- two lists of different numbers with the same members

record Split (xs : List ℕ) (x : ℕ) : Type 0 where
  pub front : List ℕ
  pub back : List ℕ
  pub is : xs ≡ front ++ x ∷ back

split : (xs : List ℕ) (x : ℕ) → Contains xs x → Split xs x
split [] x there = absurd (none_in x there)
split (y ∷ xs) x there = elim (first_or y xs x there) [
  | inl first ↦ record { front = []; back = xs; is = ap (λ one. one ∷ xs) first }
  | inr rest ↦ (let one = split xs x rest in record { front = y ∷ one.front; back = one.back; is = ap (λ rest. y ∷ rest) one.is })
]

flips : (x y : ℕ) → nat_eq x y ≡ nat_eq y x
flips x y = nat_eq_equiv.symm x y

not_twice : (x : ℕ) (xs : List ℕ) → IsDistinct nat_eq (x ∷ xs) → (y : ℕ) → x ≡ y → Contains xs y → ⊥
not_twice x xs distinct y is there =
    let differ = all-in (λ y. nat_eq x y ≡ false) xs y (IsDistinct-head nat_eq x xs distinct) there in
    let equal : nat_eq x y ≡ true = ap (nat_eq x) (sym is) ∙ itself x in
    cc

pub same_members : (xs ys : List ℕ) → IsDistinct nat_eq xs → IsDistinct nat_eq ys → ((x : ℕ) → Contains xs x → Contains ys x) → ((x : ℕ) → Contains ys x → Contains xs x) → IsPermutation xs ys
same_members [] [] one two there back = IsPermutation-refl []
same_members [] (y ∷ ys) one two there back = absurd (none_in y (back y (here y ys)))
same_members (x ∷ xs) ys one two there back =
    let parts = split ys x (there x (here x xs)) in
    let rest = parts.front ++ parts.back in
    let moved : IsPermutation ys (x ∷ rest) = subst (λ ys. IsPermutation ys (x ∷ rest)) (sym parts.is) (IsPermutation-middle parts.front x parts.back) in
    let apart = IsDistinct-IsPermutation nat_eq flips ys (x ∷ rest) moved two in
    let small = same_members xs rest (IsDistinct-tail nat_eq x xs one) (IsDistinct-tail nat_eq x rest apart)
    (λ y held. elim (first_or x rest y (Contains-permutation ys (x ∷ rest) y moved (there y (behind x xs y held)))) [
      | inl is ↦ absurd (not_twice x xs one y is held)
      | inr more ↦ more
    ])
    (λ y held. elim (first_or x xs y (back y (Contains-permutation (x ∷ rest) ys y (IsPermutation-sym ys (x ∷ rest) moved) (behind x rest y held)))) [
      | inl is ↦ absurd (not_twice x rest apart y is held)
      | inr more ↦ more
    ]) in
    IsPermutation-trans (x ∷ xs) (x ∷ rest) ys
    (IsPermutation-append (x ∷ []) (x ∷ []) xs rest (IsPermutation-refl (x ∷ [])) small)
    (IsPermutation-sym ys (x ∷ rest) moved)

empty_if : (xs : List ℕ) → ((x : ℕ) → Contains xs x → ⊥) → xs ≡ []
empty_if [] none = refl
empty_if (x ∷ xs) none = absurd (none x (here x xs))

-- ---- what readers read, by seats

false_by : (b : Bool) → (b ≡ true → ⊥) → b ≡ false
false_by true not = absurd (not refl)
false_by false not = refl

module _ (count : ℕ) where
  own_won : (own : List ℕ) (seat : ClaimSeat) → HasWon count seat → IsOwn own seat → (file : ℕ) → Contains own file → is_in file (won seat) ≡ true
  own_won own seat holds (inl is) file there =
      ap (is_in file) holds.in_order.1
      ∙ any_left (λ other. nat_eq other file) (numbers_in (published seat)) holds.in_order.0 (in_from (numbers_in (published seat)) file (subst (λ files. Contains files file) is there))
  own_won own seat holds (inr is) file there = in_from (won seat) file (subst (λ files. Contains files file) is there)

  own_distinct : (own : List ℕ) (seat : ClaimSeat) → HasWon count seat → IsOwn own seat → IsDistinct nat_eq own
  own_distinct own seat holds (inl is) = subst (IsDistinct nat_eq) (sym is) (distinct-front (numbers_in (published seat)) holds.in_order.0 (subst (IsDistinct nat_eq) holds.in_order.1 holds.distinct))
  own_distinct own seat holds (inr is) = subst (IsDistinct nat_eq) (sym is) holds.distinct

  pub owned : (owns : List (List ℕ)) (seats : List ClaimSeat) → AllZip IsOwn owns seats → AllByRecursion (HasWon count) seats → (file : ℕ) → Contains (flat_map (λ own. own) owns) file → (seat : ClaimSeat) × Contains seats seat × (is_in file (won seat) ≡ true)
  owned [] [] own holds file there = absurd (none_in file there)
  owned [] (seat ∷ seats) own holds file there = absurd own
  owned (one ∷ owns) [] own holds file there = absurd own
  owned (one ∷ owns) (seat ∷ seats) own holds file there = elim (Contains-append_cases one (flat_map (λ own. own) owns) file there) [
    | inl first ↦ (seat, here seat seats, own_won one seat holds.0 own.0 file first)
    | inr rest ↦ (let other = owned owns seats own.1 holds.1 file rest in (other.0, behind seat seats other.0 other.1, other.2))
  ]

  pub owns_distinct : (owns : List (List ℕ)) (seats : List ClaimSeat) → AllZip IsOwn owns seats → AllByRecursion (HasWon count) seats → ((file : ℕ) → winners file seats ≤ 1) → IsDistinct nat_eq (flat_map (λ own. own) owns)
  owns_distinct [] [] own holds once = distinct_none
  owns_distinct [] (seat ∷ seats) own holds once = absurd own
  owns_distinct (one ∷ owns) [] own holds once = absurd own
  owns_distinct (one ∷ owns) (seat ∷ seats) own holds once =
      distinct-append one (flat_map (λ own. own) owns) (own_distinct one seat holds.0 own.0)
      (owns_distinct owns seats own.1 holds.1 (λ file. few_behind file seat seats (once file)))
      (all-from (λ file. is_in file one ≡ false) (flat_map (λ own. own) owns) (λ file there.
      false_by (is_in file one) (λ first.
      let other = owned owns seats own.1 holds.1 file there in
      none_behind file seat seats (once file) (own_won one seat holds.0 own.0 file (from_in one file first)) other.0 other.1 other.2)))

  pub owns_held : (held : ℕ → Bool) (owns : List (List ℕ)) (seats : List ClaimSeat) → AllZip IsOwn owns seats → AllByRecursion (HasWon count) seats → AllByRecursion (λ (seat : ClaimSeat). HoldsAll held (won seat)) seats → HoldsAll held (flat_map (λ own. own) owns)
  owns_held held owns seats own holds all = all-from (λ file. IsTrue (held file)) (flat_map (λ own. own) owns) (λ file there.
      let one = owned owns seats own holds file there in
      all-in (λ file. IsTrue (held file)) (won one.0) file (all-in (λ (seat : ClaimSeat). HoldsAll held (won seat)) seats one.0 all one.1) (from_in (won one.0) file one.2))

own_all : (own : List ℕ) (seat : ClaimSeat) → HasBuilt seat → IsOwn own seat → own ≡ won seat
own_all own seat built (inl is) = is ∙ built
own_all own seat built (inr is) = is

pub owns_all : (owns : List (List ℕ)) (seats : List ClaimSeat) → AllZip IsOwn owns seats → AllByRecursion HasBuilt seats → flat_map (λ own. own) owns ≡ flat_map won seats
owns_all [] [] own built = refl
owns_all [] (seat ∷ seats) own built = absurd own
owns_all (one ∷ owns) [] own built = absurd own
owns_all (one ∷ owns) (seat ∷ seats) own built = λ i. own_all one seat built.0 own.0 i ++ owns_all owns seats own.1 built.1 i

-- ---- owners

files_are : (test : Option ℕ → Bool) (from : ℕ) (owners : List (Option ℕ)) → files_where test from owners ≡ places_where test from owners
files_are test from [] = refl
files_are test from (owner ∷ owners) =
    let rest = files_are test (suc from) owners in
    elim (test owner) as (λ b. cond b (from ∷ files_where test (suc from) owners) (files_where test (suc from) owners) ≡ cond b (from ∷ places_where test (suc from) owners) (places_where test (suc from) owners)) [
      | true ↦ ap (λ rest. from ∷ rest) rest
      | false ↦ rest
    ]

owner_is : (worker : ℕ) (owner : Option ℕ) → is_owner worker owner ≡ true → owner ≡ Some worker
owner_is worker None is = cc
owner_is worker (Some owner) is = ap Some (same owner worker is)

module _ (count : ℕ) (seats : List ClaimSeat) (owners : List (Option ℕ)) (slots : List (Option ModRecord)) (closes : Closes count seats owners slots) (holds : AllByRecursion (HasWon count) seats) (built : AllByRecursion HasBuilt seats) (board : ClaimBoard) (are : AreSeatsFrom board 0 seats) where
  abbrev files_of_worker : ℕ → List ℕ
  files_of_worker worker = files_where (is_owner worker) 0 owners

  owner_there : (worker file : ℕ) → Contains (files_of_worker worker) file → slice_get owners file ≡ Some (Some worker)
  owner_there worker file there =
      let place = of_place (is_owner worker) 0 owners file (subst (λ files. Contains files file) (files_are (is_owner worker) 0 owners) there) in
      let at : place.at ≡ file = omega (arith, place.is) in
      ap (slice_get owners) (sym at) ∙ place.there ∙ ap Some (owner_is worker place.member place.passes)

  files_of_seat : (seat : ClaimSeat) → Contains seats seat → IsPermutation (files_of_worker (number seat)) (won seat)
  files_of_seat seat among =
      same_members (files_of_worker (number seat)) (won seat)
      (subst (IsDistinct nat_eq) (sym (files_are (is_owner (number seat)) 0 owners)) (places_distinct (is_owner (number seat)) 0 owners))
      (HasWon.distinct (all-in (HasWon count) seats seat holds among))
      (λ file there.
      let one = owner_claimed file (number seat) seats (owner_at count seats owners slots closes holds built file (number seat) (owner_there (number seat) file there)) in
      let is : one.seat ≡ seat = one_seat board 0 seats one.seat seat are one.wins.among among one.number_is in
      from_in (won seat) file (ap (λ (seat : ClaimSeat). is_in file (won seat)) (sym is) ∙ one.wins.claimed))
      (λ file there.
      subst (λ files. Contains files file) (sym (files_are (is_owner (number seat)) 0 owners))
      (is_place (is_owner (number seat)) 0 owners file file (Some (number seat)) (owner_of count seats owners slots closes holds built file seat among (in_from (won seat) file there)) (itself (number seat)) (omega arith)))

  files_of_none : (worker : ℕ) → length seats ≤ worker → files_of_worker worker ≡ []
  files_of_none worker past = empty_if (files_of_worker worker) (λ file there.
      let one = owner_claimed file worker seats (owner_at count seats owners slots closes holds built file worker (owner_there worker file there)) in
      let below = numbered_below board 0 seats one.seat are one.wins.among in
      omega (arith, below, one.number_is, past))

  module _ {R : Type 0} (view : R → ReaderView) (tree : Tree) where
    seat_paths : (seat : ClaimSeat) → HasBuilt seat → (reads : List (List ℕ × Why)) → ReadsWon tree (won seat) (numbers_in (published seat)) reads → module_paths reads ≡ map (file_path tree) (won seat)
    seat_paths seat built reads (inl read) = read.are ∙ ap (map (file_path tree)) built
    seat_paths seat built reads (inr read) = read.are

    own_gain : (seat : ClaimSeat) (worker : ℕ) (old new : R) → Contains seats seat → number seat ≡ worker → HasBuilt seat → HasRead tree (view old) (view new) seat → Gains (view old) (view new) (λ reads. IsPermutation (map (file_path tree) (files_of_worker worker)) (module_paths reads))
    own_gain seat worker old new among is built read = (
      read.reads.0,
      read.reads.1,
      subst (IsPermutation (map (file_path tree) (files_of_worker worker))) (sym (seat_paths seat built read.reads.0 read.reads.2))
          (IsPermutation-map (file_path tree) (files_of_worker worker) (won seat) (subst (λ worker. IsPermutation (files_of_worker worker) (won seat)) is (files_of_seat seat among))),
    )

    none_gain : (worker : ℕ) (old new : R) → length seats ≤ worker → HasReadNone (view old) (view new) → Gains (view old) (view new) (λ reads. IsPermutation (map (file_path tree) (files_of_worker worker)) (module_paths reads))
    none_gain worker old new past read = (
      read.reads.0,
      read.reads.1,
      subst (IsPermutation (map (file_path tree) (files_of_worker worker))) (ap (map (file_path tree)) (files_of_none worker past) ∙ sym read.reads.2.are) (IsPermutation-refl (map (file_path tree) (files_of_worker worker))),
    )

    pub each_own : (worker : ℕ) (olds news : List R) (left : List ClaimSeat) → EachReads view tree olds news left → AreSeatsFrom board worker left → ((seat : ClaimSeat) → Contains left seat → Contains seats seat) → AllByRecursion HasBuilt left → length seats ≤ worker + length left
        → EachReadsOwn view tree owners worker olds news
    each_own worker [] [] left each from among all past = tt
    each_own worker [] (new ∷ news) left each from among all past = absurd each
    each_own worker (old ∷ olds) [] left each from among all past = absurd each
    each_own worker (old ∷ olds) (new ∷ news) [] each from among all past = (
      none_gain worker old new (omega (arith, past)) each.0,
      each_own (suc worker) olds news [] each.1 tt among tt (omega (arith, past)),
    )
    each_own worker (old ∷ olds) (new ∷ news) (seat ∷ left) each from among all past = (
      own_gain seat worker old new (among seat (here seat left)) from.1 all.0 each.0,
      each_own (suc worker) olds news left each.1 from.2 (λ other there. among other (behind seat left other there)) all.1 (omega (arith, past)),
    )

  -- all that the seats claimed are the members
  pub members_read : (owns : List (List ℕ)) → AllZip IsOwn owns seats → IsPermutation (places_of 0 slots) (flat_map (λ own. own) owns)
  members_read owns own =
      same_members (places_of 0 slots) (flat_map (λ own. own) owns)
      (places_distinct is_some 0 slots)
      (owns_distinct count owns seats own holds closes.once)
      (λ file there.
      let one = member count seats owners slots closes holds file there in
      subst (λ files. Contains files file) (sym (owns_all owns seats own built)) (to_flat won seats one.seat file one.among (from_in (won one.seat) file one.claimed)))
      (λ file there.
      let one = owned count owns seats own holds file there in
      is_member count seats owners slots closes holds built file one.0 one.1 one.2)
