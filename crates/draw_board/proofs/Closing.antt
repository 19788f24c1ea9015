-- Seats in their order, and what the closed board tells.
use Rattle.std.proofs.Common.{◌≡◌, ℕ, zero, suc, ◌+◌, ◌<◌, ◌≤◌, Bool, true, false, true≢false, cond, List, [], ◌∷◌, ◌++◌, length, get_or, map, append_assoc, append-nil, refl, sym, ap, subst, ◌∙◌, ⊎_elim, arith}
use Rattle.std.specs.Prelude.{sum_by, count_by}
use Rattle.std.specs.List.{AllByRecursion}
use Rattle.std.proofs.lemmas.List.Sums.{sum_by-cons}
use mathlib.Core.Option.{Option, some}
use lib.ListN.{get_elem?}
use lib.ListN.{length-map}
use Rattle.atomic_table.specs.Table.{Me, Final, Seen}
use Rattle.board_seats.specs.Seats.{only, numbered, Seated}
use Rattle.board_seats.proofs.Steps.{knows}
use Rattle.board_seats.proofs.Lists.{get_or_at}
use Rattle.draw_board.specs.declared.board.DrawBoard.{DrawBoard}
use Rattle.draw_board.specs.declared.seat.DrawSeat.{DrawSeat}
use Rattle.draw_board.specs.declared.hand.Hand.{Hand}
use Rattle.draw_board.specs.Draws.{hand_of, has_drawn_none, IsSeatOf, AreSeatsFrom, IsNewSeat, times, once_below, Closes}
use Rattle.draw_board.specs.inner.Rule.{IsDealt}

pub seats-push : (board : DrawBoard) (from : ℕ) (seats : List DrawSeat) (seat : DrawSeat) → AreSeatsFrom board from seats → IsSeatOf board seat → seat.number ≡ from + length seats
    → AreSeatsFrom board from (seats ++ seat ∷ [])
seats-push board from [] seat are is e = (is, omega arith, tt)
seats-push board from (x ∷ xs) seat are is e = (are.0, are.1, seats-push board (suc from) xs seat are.2 is (omega arith))

pub new-push : (seats : List DrawSeat) (seat : DrawSeat) → AllByRecursion IsNewSeat seats → IsNewSeat seat → AllByRecursion IsNewSeat (seats ++ seat ∷ [])
new-push [] seat are is = (is, tt)
new-push (x ∷ xs) seat are is = (are.0, new-push xs seat are.1 is)

-- the next of the seats still to be gathered
pub gathered : (board : DrawBoard) (next : ℕ) (seat : DrawSeat) (left after : List DrawSeat) (whole all : List (ℕ × Hand)) → left ≡ seat ∷ after → AreSeatsFrom board next left
    → whole ≡ all ++ numbered next (map hand_of left) → seat.token.me ≡ (only seat.number (hand_of seat), [])
    → IsSeatOf board seat × AreSeatsFrom board (suc next) after × (whole ≡ (all ++ seat.token.me.0) ++ numbered (suc next) (map hand_of after))
gathered board next seat left after whole all is are has alone =
    let here = subst (AreSeatsFrom board next) is are in
    let list : whole ≡ all ++ numbered next (map hand_of (seat ∷ after)) = has ∙ ap (λ (l : List DrawSeat). all ++ numbered next (map hand_of l)) is in
    let one : seat.token.me.0 ≡ only next (hand_of seat) = ap (λ (m : Me (Unit {0}) (List (ℕ × Hand))). m.0) alone ∙ ap (λ (n : ℕ). only n (hand_of seat)) here.1 in
    (here.0, here.2, list ∙ sym (append_assoc all (only next (hand_of seat)) (numbered (suc next) (map hand_of after))) ∙ ap (λ (l : List (ℕ × Hand)). (all ++ l) ++ numbered (suc next) (map hand_of after)) (sym one))

-- no seat is left to be gathered
pub all_gathered : (me : Me (Unit {0}) (List (ℕ × Hand))) (next : ℕ) (left : List DrawSeat) (whole : List (ℕ × Hand)) → whole ≡ me.0 ++ numbered next (map hand_of left)
    → length left ≡ 0 → me.1 ≡ [] → me ≡ (whole, [])
all_gathered me next [] whole has none idle = λ k. (sym (has ∙ append-nil me.0) k, idle k)
all_gathered me next (x ∷ xs) whole has none idle = absurd (omega arith)

sum_of_map : {X Y : Type 0} (g : X → Y) (f : Y → ℕ) (xs : List X) → sum_by f (map g xs) ≡ sum_by (λ x. f (g x)) xs
sum_of_map g f [] = refl
sum_of_map {X} g f (x ∷ xs) = sum_by-cons f (g x) (map g xs) ∙ ap (λ (n : ℕ). f (g x) + n) (sum_of_map g f xs) ∙ sym (sum_by-cons (λ (y : X). f (g y)) x xs)

none_at : {X : Type 0} (test : X → Bool) (x : X) (xs : List X) (d : X) (b : Bool) → test x ≡ b → count_by test (x ∷ xs) ≡ 0
    → ((k : ℕ) → count_by test xs ≡ 0 → k < length xs → test (get_or xs k d) ≡ false) → (k : ℕ) → k < length (x ∷ xs) → test (get_or (x ∷ xs) k d) ≡ false
none_at test x xs d b is none below k h = there b is k h
  where
    sum : cond (test x) 1 0 + count_by test xs ≡ 0
    sum = sym (sum_by-cons (λ (y : _). cond (test y) 1 0) x xs) ∙ none

    there : (b : Bool) → test x ≡ b → (k : ℕ) → k < length (x ∷ xs) → test (get_or (x ∷ xs) k d) ≡ false
    there true is k h = let one : cond true 1 0 + count_by test xs ≡ 0 = subst (λ (b : Bool). cond b 1 0 + count_by test xs ≡ 0) is sum in absurd (omega arith)
    there false is zero h = is
    there false is (suc k) h = let one : cond false 1 0 + count_by test xs ≡ 0 = subst (λ (b : Bool). cond b 1 0 + count_by test xs ≡ 0) is sum in below k (omega arith) (omega arith)

none_of : {X : Type 0} (test : X → Bool) (xs : List X) (d : X) → count_by test xs ≡ 0 → (k : ℕ) → k < length xs → test (get_or xs k d) ≡ false
none_of test [] d none k h = absurd (omega arith)
none_of test (x ∷ xs) d none k h = none_at test x xs d (test x) refl none (λ k none h. none_of test xs d none k h) k h

module _ {S : Type 0} where
  pub closes : (len seats : ℕ) (words : List ℕ) (homes : List (Option S)) (all : List DrawSeat) → IsDealt len seats words homes (map hand_of all)
      → (next count : ℕ) → get_elem? words 0 ≡ some next → (next < len → count ≡ next) → (len ≤ next → count ≡ len) → Closes len all count
  closes len seats words homes all ruled next count at under over =
      let dones : ℕ = count_by (λ (h : Hand). h.is_done) (map hand_of all) in
      let next_is : next ≡ ruled.taken + dones = sym (get_or_at words 0 next 0 at) ∙ ruled.next in
      let within : ruled.taken ≤ len = ruled.within in
      let count_is : count ≡ ruled.taken = ⊎_elim
      (λ (full : ruled.taken ≡ len). let c = over (omega arith) in omega arith)
      (λ (none : dones ≡ 0). by_cases next_is within none)
      ruled.full in record {
        within = omega arith;
        once = λ position. sym (sum_of_map hand_of (λ (h : Hand). times position h.drawn) all) ∙ ruled.once position ∙ ap (once_below position) (sym count_is);
        all = λ seat has done. ⊎_elim
            (λ (full : ruled.taken ≡ len). count_is ∙ full)
            (λ (none : dones ≡ 0).
            let clear = none_of has_drawn_none all seat (sym (sum_of_map hand_of (λ (h : Hand). cond h.is_done 1 0) all) ∙ none) has.0 has.1 in
            absurd (true≢false (sym (ap has_drawn_none has.2 ∙ done) ∙ clear)))
            ruled.full;
      }
    where
      by_cases : {dones : ℕ} → next ≡ ruled.taken + dones → ruled.taken ≤ len → dones ≡ 0 → count ≡ ruled.taken
      by_cases {dones} is within none = grind (arith, under, over)

  pub board_closes : (len seats token : ℕ) (words : List ℕ) (slots : List S) (all : List DrawSeat) (me : Me S (List (ℕ × Hand))) → me ≡ (numbered 0 (map hand_of all), [])
      → (key : ℕ × ℕ) → key ≡ (len, seats) → Final (Seen (Seated (IsDealt {S = S} key.0 key.1)) token me.0) words slots → length all ≡ seats
      → (next count : ℕ) → get_elem? words 0 ≡ some next → (next < len → count ≡ next) → (len ≤ next → count ≡ len) → Closes len all count
  board_closes len seats token words slots all me is key keyed closed many next count at under over =
      let final = subst (λ (k : ℕ × ℕ). Final (Seen (Seated (IsDealt {S = S} k.0 k.1)) token me.0) words slots) keyed closed in
      let s = final.0 in
      let held = final.1.0 in
      let view : get_elem? s.views token ≡ some (numbered 0 (map hand_of all)) = final.1.1 ∙ ap (λ (m : Me S (List (ℕ × Hand))). some m.0) is in
      let book_len : length held.book ≡ length (map hand_of all) = held.ruled.as_many ∙ sym many ∙ sym (length-map all hand_of) in
      closes len seats s.words s.homes all (knows (IsDealt {S = S} len seats) s token (map hand_of all) held view book_len) next count
      (ap (λ (w : List ℕ). get_elem? w 0) final.2 ∙ at) under over
