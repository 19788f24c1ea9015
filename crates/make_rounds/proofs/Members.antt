-- What a closed board tells of its seats: who owns a file, and which record it has.
use Rattle.std.proofs.Common.{◌≡◌, ℕ, zero, suc, ◌+◌, ◌<◌, ◌≤◌, Bool, true, false, ◌&&◌, cond, List, [], ◌∷◌, ◌++◌, ◌||◌, length, map, refl, sym, ap, subst, ◌∙◌, inl, inr, arith}
use Rattle.std.proofs.lemmas.List.Elements.{Contains-append_left, Contains-append_right, Contains-append_cases}
use Rattle.std.proofs.lemmas.Cmp.{nat_eq_equiv}
use Rattle.std.proofs.lemmas.List.Sorted.{Contains-permutation, IsPermutation-map, IsPermutation-sym}
use Rattle.std.proofs.lemmas.List.Sums.{sum_by-cons}
use Rattle.std.proofs.lemmas.Map.Views.{Contains-from_any, list_any-from_Contains}
use Rattle.std.specs.List.{AllByRecursion, IsDistinct, list_any, slice_get}
use Rattle.std.specs.Prelude.{nat_eq, Contains, IsTrue, Option, Some, None, IsPermutation, count_by, flat_map, is_some, option_map}
use Rattle.build_round.specs.Rounds.{is_known, knows, numbers_in}
use Rattle.claim_board.specs.Claims.{AreSeatsFrom, number, published, seen, won}
use Rattle.claim_board.specs.Closing.{Closes, owner_among, record_among, winner}
use Rattle.claim_board.specs.Lists.{is_in, is_seen, record_in}
use Rattle.claim_board.specs.declared.board.ClaimBoard.{ClaimBoard}
use Rattle.claim_board.specs.declared.seat.ClaimSeat.{ClaimSeat}
use Rattle.fault_place.specs.Limit.{number_of}
use Rattle.fault_place.specs.declared.limit.Limit.{Limit}
use Rattle.pack_util.specs.declared.number.FileId.{FileId}
use Rattle.graph_types.specs.Modules.{Graph, file_id, files_of}
use Rattle.graph_types.specs.Reached.{HoldsAll, IsReached}
use Rattle.graph_types.specs.Targets.{targets_by, targets_of}
use Rattle.graph_types.specs.declared.record.ModRecord.{ModRecord}
use Rattle.module_build.specs.Shape.{IsSimple}
use Rattle.make_rounds.specs.inner.Closed.{present}
use Rattle.make_rounds.specs.Counts.{AreReached, ExceedsReached, counted}
use Rattle.make_rounds.specs.Make.{AreOwned}
use Rattle.make_rounds.specs.inner.Growing.{AreMade, AreMet, HasBuilt, HasWon, IsMet}
use Rattle.make_rounds.specs.inner.Places.{places_where}
use Rattle.make_rounds.proofs.Counting.{counted_within}
use Rattle.make_rounds.proofs.Graphs.{AreGathered}
use Rattle.make_rounds.proofs.Lists.{all-from, all-in, all-kept, any_left, behind, either_true, first_or, from_in, here, itself, left_true, none_in, right_true, same}
use Rattle.make_rounds.proofs.Rows.{is_place, of_place, places_distinct}

abbrev Pairs : Type 0
Pairs = List (ℕ × ModRecord)

-- ---- records in a list

pub record_found : (file : ℕ) (rec : ModRecord) (pairs : Pairs) → record_in file pairs ≡ Some rec → Contains pairs (file, rec)
record_found file rec [] is = cc
record_found file rec ((other, one) ∷ pairs) is =
    elim (nat_eq other file) as (λ b. nat_eq other file ≡ b → cond b (Some one) (record_in file pairs) ≡ Some rec → Contains ((other, one) ∷ pairs) (file, rec)) [
      | true ↦ λ at found.
          let file_is : other ≡ file = same other file at in
          let rec_is : one ≡ rec = cc in
          subst (Contains ((other, one) ∷ pairs)) (λ i. (file_is i, rec_is i)) (here (other, one) pairs)
      | false ↦ λ not found. behind (other, one) pairs (file, rec) (record_found file rec pairs found)
    ] refl is

pub record_there : (file : ℕ) (pairs : Pairs) → is_in file (numbers_in pairs) ≡ true → (rec : ModRecord) × (record_in file pairs ≡ Some rec)
record_there file [] is = cc
record_there file ((other, one) ∷ pairs) is =
    elim (nat_eq other file) as (λ b. (b || is_in file (numbers_in pairs)) ≡ true → (rec : ModRecord) × (cond b (Some one) (record_in file pairs) ≡ Some rec)) [
      | true ↦ λ at. (one, refl)
      | false ↦ λ rest. record_there file pairs rest
    ] is

numbers-append : (pairs more : Pairs) (file : ℕ) → is_in file (numbers_in pairs) ≡ true → is_in file (numbers_in (pairs ++ more)) ≡ true
numbers-append [] more file is = cc
numbers-append (pair ∷ pairs) more file is =
    elim (nat_eq pair.0 file) as (λ b. (b || is_in file (numbers_in pairs)) ≡ true → (b || is_in file (numbers_in (pairs ++ more))) ≡ true) [
      | true ↦ λ at. refl
      | false ↦ numbers-append pairs more file
    ] is

numbers-behind : (pairs more : Pairs) (file : ℕ) → is_in file (numbers_in more) ≡ true → is_in file (numbers_in (pairs ++ more)) ≡ true
numbers-behind [] more file is = is
numbers-behind (pair ∷ pairs) more file is =
    elim (nat_eq pair.0 file) as (λ b. (b || is_in file (numbers_in (pairs ++ more))) ≡ true) [
      | true ↦ refl
      | false ↦ numbers-behind pairs more file is
    ]

-- the seat that published a pair
pub record IsFrom {X : Type 0} (f : ClaimSeat → List X) (seats : List ClaimSeat) (x : X) : Type 0 where
  pub seat : ClaimSeat
  pub among : Contains seats seat
  pub there : Contains (f seat) x

pub from_seat : {X : Type 0} (f : ClaimSeat → List X) (seats : List ClaimSeat) (x : X) → Contains (flat_map f seats) x → IsFrom f seats x
from_seat f [] x there = absurd (none_in x there)
from_seat f (seat ∷ seats) x there = elim (Contains-append_cases (f seat) (flat_map f seats) x there) [
  | inl own ↦ record { seat = seat; among = here seat seats; there = own }
  | inr rest ↦ (let one = from_seat f seats x rest in record { seat = one.seat; among = behind seat seats one.seat one.among; there = one.there })
]

pub to_flat : {X : Type 0} (f : ClaimSeat → List X) (seats : List ClaimSeat) (seat : ClaimSeat) (x : X) → Contains seats seat → Contains (f seat) x → Contains (flat_map f seats) x
to_flat f [] seat x among there = absurd (none_in seat among)
to_flat f (one ∷ seats) seat x among there = elim (first_or one seats seat among) [
  | inl is ↦ Contains-append_left (f one) (flat_map f seats) x (subst (λ seat. Contains (f seat) x) (sym is) there)
  | inr rest ↦ Contains-append_right (f one) (flat_map f seats) x (to_flat f seats seat x rest there)
]

numbers_flat : (seats : List ClaimSeat) (seat : ClaimSeat) (file : ℕ) → Contains seats seat → is_in file (numbers_in (published seat)) ≡ true → is_in file (numbers_in (flat_map published seats)) ≡ true
numbers_flat [] seat file among is = absurd (none_in seat among)
numbers_flat (one ∷ seats) seat file among is = elim (first_or one seats seat among) [
  | inl same ↦ numbers-append (published one) (flat_map published seats) file (subst (λ seat. is_in file (numbers_in (published seat)) ≡ true) (sym same) is)
  | inr rest ↦ numbers-behind (published one) (flat_map published seats) file (numbers_flat seats seat file rest is)
]

-- ---- the seat that claimed a file

-- how many seats claimed it
abbrev pub winners : ℕ → List ClaimSeat → ℕ
winners file seats = count_by (λ seat. is_in file (won seat)) seats

one_more : (file : ℕ) (seat : ClaimSeat) (seats : List ClaimSeat) → winners file (seat ∷ seats) ≡ cond (is_in file (won seat)) 1 0 + winners file seats
one_more file seat seats = sum_by-cons (λ (seat : ClaimSeat). cond (is_in file (won seat)) 1 0) seat seats

pub some_winner : (file : ℕ) (seats : List ClaimSeat) (seat : ClaimSeat) → Contains seats seat → is_in file (won seat) ≡ true → 1 ≤ winners file seats
some_winner file [] seat among is = absurd (none_in seat among)
some_winner file (one ∷ seats) seat among is = elim (first_or one seats seat among) [
  | inl same ↦ (
      let own : is_in file (won one) ≡ true = ap (λ (seat : ClaimSeat). is_in file (won seat)) same ∙ is in
      let more : winners file (one ∷ seats) ≡ 1 + winners file seats = one_more file one seats ∙ ap (λ b. cond b 1 0 + winners file seats) own in
      omega (arith, more))
  | inr rest ↦ (
      let some = some_winner file seats seat rest is in
      let more = one_more file one seats in
      omega (arith, more, some))
]

pub few_behind : (file : ℕ) (seat : ClaimSeat) (seats : List ClaimSeat) → winners file (seat ∷ seats) ≤ 1 → winners file seats ≤ 1
few_behind file seat seats few = let more = one_more file seat seats in omega (arith, more, few)

-- where one seat claimed it, no seat behind it did
pub none_behind : (file : ℕ) (seat : ClaimSeat) (seats : List ClaimSeat) → winners file (seat ∷ seats) ≤ 1 → is_in file (won seat) ≡ true → (other : ClaimSeat) → Contains seats other → is_in file (won other) ≡ true → ⊥
none_behind file seat seats few own other among is =
    let more : winners file (seat ∷ seats) ≡ 1 + winners file seats = one_more file seat seats ∙ ap (λ b. cond b 1 0 + winners file seats) own in
    let some = some_winner file seats other among is in
    omega (arith, more, some, few)

pub winner_is : (file : ℕ) (seats : List ClaimSeat) (seat : ClaimSeat) → winners file seats ≤ 1 → Contains seats seat → is_in file (won seat) ≡ true → winner file seats ≡ Some seat
winner_is file [] seat few among is = absurd (none_in seat among)
winner_is file (one ∷ seats) seat few among is =
    elim (is_in file (won one)) as (λ b. is_in file (won one) ≡ b → cond b (Some one) (winner file seats) ≡ Some seat) [
      | true ↦ λ own. elim (first_or one seats seat among) [
        | inl same ↦ ap Some same
        | inr rest ↦ absurd (none_behind file one seats few own seat rest is)
      ]
      | false ↦ λ not. elim (first_or one seats seat among) [
        | inl same ↦ (let own : is_in file (won one) ≡ true = ap (λ (seat : ClaimSeat). is_in file (won seat)) same ∙ is in cc)
        | inr rest ↦ winner_is file seats seat (few_behind file one seats few) rest is
      ]
    ] refl

-- the seat that is found
pub record IsWinner (file : ℕ) (seats : List ClaimSeat) (seat : ClaimSeat) : Type 0 where
  pub among : Contains seats seat
  pub claimed : is_in file (won seat) ≡ true

pub winner_claimed : (file : ℕ) (seats : List ClaimSeat) (seat : ClaimSeat) → winner file seats ≡ Some seat → IsWinner file seats seat
winner_claimed file [] seat is = cc
winner_claimed file (one ∷ seats) seat is =
    elim (is_in file (won one)) as (λ b. is_in file (won one) ≡ b → cond b (Some one) (winner file seats) ≡ Some seat → IsWinner file (one ∷ seats) seat) [
      | true ↦ λ own found. (
          let same : one ≡ seat = cc in
          subst (IsWinner file (one ∷ seats)) same (record { among = here one seats; claimed = own }))
      | false ↦ λ not found. (
          let rest = winner_claimed file seats seat found in
          record { among = behind one seats seat rest.among; claimed = rest.claimed })
    ] refl is

-- an owner is the number of the seat that is found
pub record IsOwner (file : ℕ) (seats : List ClaimSeat) (owner : ℕ) : Type 0 where
  pub seat : ClaimSeat
  pub number_is : number seat ≡ owner
  pub wins : IsWinner file seats seat

no_number : (owner : ℕ) → None ≡ Some owner → ⊥
no_number owner is = cc

one_number : (one owner : ℕ) → Some one ≡ Some owner → one ≡ owner
one_number one owner is = cc

owner_by : (file owner : ℕ) (seats : List ClaimSeat) (found : Option ClaimSeat) → winner file seats ≡ found → option_map number found ≡ Some owner → IsOwner file seats owner
owner_by file owner seats None found is = absurd (no_number owner is)
owner_by file owner seats (Some seat) found is = record { seat = seat; number_is = one_number (number seat) owner is; wins = winner_claimed file seats seat found }

pub owner_claimed : (file owner : ℕ) (seats : List ClaimSeat) → owner_among file seats ≡ Some owner → IsOwner file seats owner
owner_claimed file owner seats is = owner_by file owner seats (winner file seats) refl is

-- ---- numbers of seats

numbered_on : (board : ClaimBoard) (from : ℕ) (seats : List ClaimSeat) (seat : ClaimSeat) → AreSeatsFrom board from seats → Contains seats seat → from ≤ number seat
numbered_on board from [] seat are among = absurd (none_in seat among)
numbered_on board from (one ∷ seats) seat are among = elim (first_or one seats seat among) [
  | inl same ↦ (let is : number seat ≡ from = ap number (sym same) ∙ are.1 in omega (arith, is))
  | inr rest ↦ (let on = numbered_on board (suc from) seats seat are.2 rest in omega (arith, on))
]

pub numbered_below : (board : ClaimBoard) (from : ℕ) (seats : List ClaimSeat) (seat : ClaimSeat) → AreSeatsFrom board from seats → Contains seats seat → number seat < from + length seats
numbered_below board from [] seat are among = absurd (none_in seat among)
numbered_below board from (one ∷ seats) seat are among = elim (first_or one seats seat among) [
  | inl same ↦ (let is : number seat ≡ from = ap number (sym same) ∙ are.1 in omega (arith, is))
  | inr rest ↦ (let below = numbered_below board (suc from) seats seat are.2 rest in omega (arith, below))
]

-- no two seats have one number
pub one_seat : (board : ClaimBoard) (from : ℕ) (seats : List ClaimSeat) (seat other : ClaimSeat) → AreSeatsFrom board from seats → Contains seats seat → Contains seats other → number seat ≡ number other → seat ≡ other
one_seat board from [] seat other are among too is = absurd (none_in seat among)
one_seat board from (one ∷ seats) seat other are among too is = elim (first_or one seats seat among) [
  | inl first ↦ elim (first_or one seats other too) [
    | inl second ↦ sym first ∙ second
    | inr rest ↦ (
        let on = numbered_on board (suc from) seats other are.2 rest in
        let at : number seat ≡ from = ap number (sym first) ∙ are.1 in
        absurd (omega (arith, on, at, is)))
  ]
  | inr rest ↦ elim (first_or one seats other too) [
    | inl second ↦ (
        let on = numbered_on board (suc from) seats seat are.2 rest in
        let at : number other ≡ from = ap number (sym second) ∙ are.1 in
        absurd (omega (arith, on, at, is)))
    | inr more ↦ one_seat board (suc from) seats seat other are.2 rest more is
  ]
]

-- ---- slots

pub slot_within : {A : Type 0} (xs : List A) (at : ℕ) (x : A) → slice_get xs at ≡ Some x → at < length xs
slot_within [] at x is = cc
slot_within (y ∷ xs) zero x is = omega arith
slot_within (y ∷ xs) (suc at) x is = let rest = slot_within xs at x is in omega (arith, rest)

abbrev pub places_of : ℕ → List (Option ModRecord) → List ℕ
places_of from slots = places_where is_some from slots

-- what holds of each record that is there, by its place
pub all_present : (P : ModRecord → Type 0) (slots : List (Option ModRecord)) → ((at : ℕ) (rec : ModRecord) → slice_get slots at ≡ Some (Some rec) → P rec) → AllByRecursion P (present slots)
all_present P [] each = tt
all_present P (None ∷ slots) each = all_present P slots (λ at rec is. each (suc at) rec is)
all_present P (Some rec ∷ slots) each = (each 0 rec refl, all_present P slots (λ at rec is. each (suc at) rec is))

pub files_present : (from : ℕ) (slots : List (Option ModRecord)) → ((at place : ℕ) (rec : ModRecord) → slice_get slots at ≡ Some (Some rec) → place ≡ from + at → rec.file.0 ≡ place) → files_of (present slots) ≡ places_of from slots
files_present from [] each = refl
files_present from (None ∷ slots) each = files_present (suc from) slots (λ at place rec is at_place. each (suc at) place rec is (omega (arith, at_place)))
files_present from (Some rec ∷ slots) each =
    let first = each 0 from rec refl (omega arith) in
    let rest = files_present (suc from) slots (λ at place rec is at_place. each (suc at) place rec is (omega (arith, at_place))) in
    λ i. first i ∷ rest i

pub records_present : (record_of : ℕ → ModRecord) (from : ℕ) (slots : List (Option ModRecord)) → ((at place : ℕ) (rec : ModRecord) → slice_get slots at ≡ Some (Some rec) → place ≡ from + at → rec ≡ record_of place) → present slots ≡ map record_of (places_of from slots)
records_present record_of from [] each = refl
records_present record_of from (None ∷ slots) each = records_present record_of (suc from) slots (λ at place rec is at_place. each (suc at) place rec is (omega (arith, at_place)))
records_present record_of from (Some rec ∷ slots) each =
    let first = each 0 from rec refl (omega arith) in
    let rest = records_present record_of (suc from) slots (λ at place rec is at_place. each (suc at) place rec is (omega (arith, at_place))) in
    λ i. first i ∷ rest i

-- ---- what the closed board tells

some_of : (slot : Option ModRecord) → is_some slot ≡ true → (rec : ModRecord) × (slot ≡ Some rec)
some_of None is = cc
some_of (Some rec) is = (rec, refl)

pub any_member : {X : Type 0} (test : X → Bool) (xs : List X) → list_any test xs ≡ true → (x : X) × Contains xs x × (test x ≡ true)
any_member test [] is = cc
any_member test (x ∷ xs) is = elim (either_true (test x) (list_any test xs) is) [
  | inl first ↦ (x, here x xs, first)
  | inr rest ↦ (let one = any_member test xs rest in (one.0, behind x xs one.0 one.1, one.2))
]

pub is_number : (file : ℕ) (rec : ModRecord) (pairs : Pairs) → Contains pairs (file, rec) → is_in file (numbers_in pairs) ≡ true
is_number file rec [] there = absurd (none_in (file, rec) there)
is_number file rec (pair ∷ pairs) there = elim (first_or pair pairs (file, rec) there) [
  | inl first ↦ (let at : pair.0 ≡ file = ap (λ (pair : ℕ × ModRecord). pair.0) first in left_true (nat_eq pair.0 file) (is_in file (numbers_in pairs)) (ap (λ one. nat_eq one file) at ∙ itself file))
  | inr rest ↦ right_true (nat_eq pair.0 file) (is_in file (numbers_in pairs)) (is_number file rec pairs rest)
]

seen_first : (file other owner : ℕ) → nat_eq other file ≡ true → (nat_eq other file && nat_eq owner owner) ≡ true
seen_first file other owner at = rw (at, itself owner) refl

seen_by : (file : ℕ) (pairs : List (ℕ × ℕ)) → list_any (λ pair. nat_eq pair.0 file) pairs ≡ true → (owner : ℕ) × (is_seen file owner pairs ≡ true)
seen_by file [] is = cc
seen_by file ((other, owner) ∷ pairs) is = elim (either_true (nat_eq other file) (list_any (λ pair. nat_eq pair.0 file) pairs) is) [
  | inl first ↦ (owner, left_true (nat_eq other file && nat_eq owner owner) (is_seen file owner pairs) (seen_first file other owner first))
  | inr rest ↦ (let one = seen_by file pairs rest in (one.0, right_true (nat_eq other file && nat_eq owner one.0) (is_seen file one.0 pairs) one.1))
]

module _ (count : ℕ) (seats : List ClaimSeat) (owners : List (Option ℕ)) (slots : List (Option ModRecord)) (closes : Closes count seats owners slots) (holds : AllByRecursion (HasWon count) seats) where
  holds_at : (seat : ClaimSeat) → Contains seats seat → HasWon count seat
  holds_at seat among = all-in (HasWon count) seats seat holds among

  pub published_at : (at : ℕ) (rec : ModRecord) → slice_get slots at ≡ Some (Some rec) → IsFrom published seats (at, rec)
  published_at at rec is =
      let within = slot_within slots at (Some rec) is in
      let told = closes.recorded at (omega (arith, within, closes.as_many_records)) in
      let found : record_among at seats ≡ Some rec = cc in
      from_seat published seats (at, rec) (record_found at rec (flat_map published seats) found)

  simple_at : (at : ℕ) (rec : ModRecord) → slice_get slots at ≡ Some (Some rec) → IsSimple count (file_id at) rec
  simple_at at rec is =
      let one = published_at at rec is in
      all-in (λ (pair : ℕ × ModRecord). IsSimple count (file_id pair.0) pair.1) (published one.seat) (at, rec) (holds_at one.seat one.among).simple one.there

  pub numbers_are : files_of (present slots) ≡ places_of 0 slots
  numbers_are = files_present 0 slots (λ at place rec is at_place. ap (λ (file : FileId). file.0) (simple_at at rec is).file_is ∙ omega (arith, at_place))

  pub distinct_records : IsDistinct nat_eq (files_of (present slots))
  distinct_records = subst (IsDistinct nat_eq) (sym numbers_are) (places_distinct is_some 0 slots)

  pub simple_records : AllByRecursion (λ (rec : ModRecord). IsSimple count rec.file rec) (present slots)
  simple_records = all_present (λ (rec : ModRecord). IsSimple count rec.file rec) slots (λ at rec is.
      let simple = simple_at at rec is in subst (λ file. IsSimple count file rec) (sym simple.file_is) simple)

  -- a member was claimed by a seat, which published its record
  pub record IsMember (file : ℕ) : Type 0 where
    pub seat : ClaimSeat
    pub among : Contains seats seat
    pub rec : ModRecord
    pub there : Contains (published seat) (file, rec)
    pub claimed : is_in file (won seat) ≡ true

  pub member : (file : ℕ) → Contains (places_of 0 slots) file → IsMember file
  member file there =
      let place = of_place is_some 0 slots file there in
      let some = some_of place.member place.passes in
      let at : place.at ≡ file = omega (arith, place.is) in
      let is : slice_get slots file ≡ Some (Some some.0) = ap (slice_get slots) (sym at) ∙ place.there ∙ ap Some some.1 in
      let one = published_at file some.0 is in
      let order = (holds_at one.seat one.among).in_order in
      record {
        seat = one.seat;
        among = one.among;
        rec = some.0;
        there = one.there;
        claimed = ap (is_in file) order.1 ∙ any_left (λ other. nat_eq other file) (numbers_in (published one.seat)) order.0 (is_number file some.0 (published one.seat) one.there);
      }

  module _ (built : AllByRecursion HasBuilt seats) where
    pub is_member : (file : ℕ) (seat : ClaimSeat) → Contains seats seat → is_in file (won seat) ≡ true → Contains (places_of 0 slots) file
    is_member file seat among claimed =
        let own : is_in file (numbers_in (published seat)) ≡ true = ap (is_in file) (all-in HasBuilt seats seat built among) ∙ claimed in
        let some = record_there file (flat_map published seats) (numbers_flat seats seat file among own) in
        let within : file < count = all-in (λ file. file < count) (won seat) file (holds_at seat among).within (from_in (won seat) file claimed) in
        is_place is_some 0 slots file file (Some some.0) (closes.recorded file within ∙ ap Some some.1) refl (omega arith)

    pub owned_member : (file owner : ℕ) → owner_among file seats ≡ Some owner → Contains (places_of 0 slots) file
    owned_member file owner is = let one = owner_claimed file owner seats is in is_member file one.seat one.wins.among one.wins.claimed

    pub known_member : (file : ℕ) → IsTrue (is_known file seats) → Contains (places_of 0 slots) file
    known_member file known =
        let one = any_member (knows file) seats known in
        elim (either_true (is_in file (won one.0)) (list_any (λ pair. nat_eq pair.0 file) (seen one.0)) one.2) [
          | inl own ↦ is_member file one.0 one.1 own
          | inr told ↦ (let pair = seen_by file (seen one.0) told in owned_member file pair.0 ((closes.told one.0 one.1).owners file pair.0 pair.1))
        ]

    -- ---- owners

    pub owner_at : (file owner : ℕ) → slice_get owners file ≡ Some (Some owner) → owner_among file seats ≡ Some owner
    owner_at file owner is =
        let within = slot_within owners file (Some owner) is in
        let told = closes.owner file (omega (arith, within, closes.as_many_owners)) in
        cc

    pub owner_of : (file : ℕ) (seat : ClaimSeat) → Contains seats seat → is_in file (won seat) ≡ true → slice_get owners file ≡ Some (Some (number seat))
    owner_of file seat among claimed =
        let within : file < count = all-in (λ file. file < count) (won seat) file (holds_at seat among).within (from_in (won seat) file claimed) in
        closes.owner file within ∙ ap (λ found. Some (option_map number found)) (winner_is file seats seat (closes.once file) among claimed)

    pub are_owned : (board : ClaimBoard) → AreSeatsFrom board 0 seats → (graph : Graph) → IsPermutation (present slots) graph.records → AreOwned count (length seats) graph owners
    are_owned board are graph same =
        let moved = IsPermutation-map (λ (rec : ModRecord). rec.file.0) (present slots) graph.records same in
        record {
          as_many = closes.as_many_owners;
          of_modules = λ file. (
            λ owned. Contains-permutation (files_of (present slots)) (files_of graph.records) file moved
                (subst (λ files. Contains files file) (sym numbers_are) (owned_member file owned.0 (owner_at file owned.0 owned.1))),
            λ there. (
                let back = Contains-permutation (files_of graph.records) (files_of (present slots)) file (IsPermutation-sym (files_of (present slots)) (files_of graph.records) moved) there in
                let one = member file (subst (λ files. Contains files file) numbers_are back) in
                (number one.seat, owner_of file one.seat one.among one.claimed)),
          );
          by_workers = λ file owner is.
              let one = owner_claimed file owner seats (owner_at file owner is) in
              let below = numbered_below board 0 seats one.seat are one.wins.among in
              omega (arith, below, one.number_is);
        }

    -- ---- the reached files

    module _ (record_of : ℕ → ModRecord) (first : List ℕ) (made : AreMade record_of first seats) where
      pub records_are : present slots ≡ map record_of (places_of 0 slots)
      records_are = records_present record_of 0 slots (λ at place rec is at_place.
          let one = published_at at rec is in
          let same : at ≡ place = omega (arith, at_place) in
          made.records one.seat one.among at rec one.there ∙ ap record_of same)

      pub least : AreReached record_of first (places_of 0 slots)
      least = λ set all closed. all-from (λ file. IsTrue (set file)) (places_of 0 slots) (λ file there.
          let one = member file there in
          all-in (λ file. IsTrue (set file)) (won one.seat) file (all-in (λ (seat : ClaimSeat). HoldsAll set (won seat)) seats one.seat (made.reached set all closed) one.among) (from_in (won one.seat) file one.claimed))

      met_member : AreMet first [] seats → (file : ℕ) → IsMet [] seats file → Contains (places_of 0 slots) file
      met_member met file (inl there) = absurd (none_in file there)
      met_member met file (inr known) = known_member file known

      reached_all : AreMet first [] seats → IsReached (targets_by record_of) first (places_of 0 slots)
      reached_all met = record {
        holds = all-kept (IsMet [] seats) (Contains (places_of 0 slots)) (met_member met) first met.firsts;
        closed = λ file there.
            let one = member file there in
            let is : targets_of one.rec ≡ targets_by record_of file = ap targets_of (made.records one.seat one.among file one.rec one.there) in
            subst (AllByRecursion (Contains (places_of 0 slots))) is
            (all-kept (IsMet [] seats) (Contains (places_of 0 slots)) (met_member met) (targets_of one.rec) (met.targets one.seat one.among file one.rec one.there));
        least = least;
      }

      pub gathered : AreMet first [] seats → AreGathered record_of first (present slots)
      gathered met = record { members = places_of 0 slots; records_are = records_are; reached = reached_all met }

      pub exceeds : (limit : Limit) → number_of limit < counted (present slots) limit → ExceedsReached record_of first limit
      exceeds limit more = record {
        files = places_of 0 slots;
        distinct = places_distinct is_some 0 slots;
        reached = least;
        more = subst (λ records. number_of limit < counted records limit) records_are more;
      }

      abbrev is_among : ℕ → Bool
      is_among file = list_any (nat_eq file) (places_of 0 slots)

      among_all : (files : List ℕ) → AllByRecursion (Contains (places_of 0 slots)) files → HoldsAll is_among files
      among_all files all = all-kept (Contains (places_of 0 slots)) (λ file. IsTrue (is_among file)) (λ (file : ℕ) there. list_any-from_Contains nat_eq_equiv file (places_of 0 slots) there) files all

      pub none_exceeded : AreMet first [] seats → ((limit : Limit) → counted (present slots) limit ≤ number_of limit) → (limit : Limit) → ¬ ExceedsReached record_of first limit
      none_exceeded met allowed limit exceeded =
          let all = reached_all met in
          let within = exceeded.reached is_among (among_all first all.holds)
          (λ file there. among_all (targets_by record_of file) (all.closed file (Contains-from_any same file (places_of 0 slots) there))) in
          let fewer = counted_within record_of exceeded.files (places_of 0 slots) exceeded.distinct within limit in
          let few = allowed limit in
          let equal : counted (present slots) limit ≡ counted (map record_of (places_of 0 slots)) limit = ap (λ records. counted records limit) records_are in
          omega (arith, exceeded.more, fewer, few, equal)
