-- A draw keeps the rule.
use Rattle.std.proofs.Common.{◌≡◌, ◌≢◌, ◌⊎◌, ℕ, suc, ◌+◌, ◌*◌, ◌%◌, ◌^◌, ◌<◌, ◌≤◌, Bool, true, false, cond, ltb, ◌==◌, List, [], ◌∷◌, ◌++◌, length, replicate, set, refl, sym, ap, zero-add, subst, ◌∙◌, inl, inr, ⊎_elim, arith, length-set, get_or-set_same}
use Rattle.std.specs.Prelude.{slice_index, slice_set, sum_by, count_by}
use Rattle.std.proofs.lemmas.Bool.{ltb-true, lt-ltb}
use Rattle.std.proofs.lemmas.Bool.Decides.{nat_tests}
use Rattle.std.proofs.lemmas.List.Sums.{sum_by-set, sum_by-append, count_by-le-length}
use Rattle.std.proofs.lemmas.List.Folds.{sum_by-replicate}
use mathlib.Core.Option.{Option, some, some-injective}
use lib.ListN.{get_elem?}
use Rattle.atomic_table.specs.Table.{Me, keeps, Allows}
use Rattle.atomic_table.proofs.Lists.{at_set}
use Rattle.board_seats.specs.Seats.{only, Moves, Seated}
use Rattle.board_seats.proofs.Steps.{allows}
use Rattle.board_seats.proofs.Lists.{below_length, get_or_at, at_replicate}
use Rattle.draw_board.specs.declared.hand.Hand.{Hand}
use Rattle.draw_board.specs.Hands.{empty_hand, hand_in}
use Rattle.draw_board.specs.Draws.{above, times, once_below}
use Rattle.draw_board.specs.inner.Rule.{IsHand, IsDealt, after_draw, Drawn}

abbrev one_if : Bool → ℕ
one_if b = cond b 1 0

abbrev first_number : List (ℕ × Hand) → ℕ
first_number [] = 0
first_number (seat ∷ seats) = seat.0

-- a sum once one member is another
pub sum_of_set : {X : Type 0} (f : X → ℕ) (xs : List X) (i : ℕ) (old now : X) → get_elem? xs i ≡ some old → sum_by f (set xs i now) + f old ≡ sum_by f xs + f now
sum_of_set f xs i old now at =
    let there = get_or_at xs i old old at in
    subst (λ (y : _). sum_by f (set xs i now) + f y ≡ sum_by f xs + f now) there (sum_by-set f xs i now old (below_length xs i old at))

pub above-push : (numbers : List ℕ) (number : ℕ) → above (numbers ++ number ∷ []) ≡ suc number
above-push [] number = refl
above-push (x ∷ []) number = refl
above-push (x ∷ y ∷ ys) number = above-push (y ∷ ys) number

times-push : (position : ℕ) (numbers : List ℕ) (number : ℕ) → times position (numbers ++ number ∷ []) ≡ times position numbers + cond (number == position) 1 0
times-push position numbers number = let h = sum_by-append (λ (n : ℕ). cond (n == position) 1 0) numbers (number ∷ []) in omega (arith, h)

once-more : (position number : ℕ) → once_below position (number + 1) ≡ once_below position number + cond (number == position) 1 0
once-more position number = grind (arith, nat_tests)

zero_sum : {X : Type 0} (f : X → ℕ) (x : X) → f x ≡ 0 → (n : ℕ) → sum_by f (replicate n x) ≡ 0
zero_sum f x e n = let h = sum_by-replicate f n x in let z : n * f x ≡ 0 = ap (λ (m : ℕ). n * m) e ∙ omega arith in h ∙ z

module _ {S : Type 0} (len seats : ℕ) where
  -- the rule after a step of one seat that leaves it this hand
  stepped : (words : List ℕ) (homes : List (Option S)) (book : List Hand) (number : ℕ) (old now : Hand) (ruled : IsDealt len seats words homes book) → get_elem? book number ≡ some old
      → (found : ℕ) → found ≡ (slice_index words 0 + 1) % 2 ^ 64
      → (taken : ℕ) → ruled.taken ≤ taken → taken ≤ len
      → slice_index words 0 + 1 ≡ taken + count_by (λ (h : Hand). h.is_done) (set book number now)
      → ((taken ≡ len) ⊎ (count_by (λ (h : Hand). h.is_done) (set book number now) ≡ 0))
      → ((position : ℕ) → sum_by (λ (h : Hand). times position h.drawn) (set book number now) ≡ once_below position taken)
      → IsHand len taken now
      → IsDealt len seats (slice_set words 0 found) homes (set book number now)
  stepped words homes book number old now ruled at found is taken more within next full once mine =
      let most = count_by-le-length (λ (h : Hand). h.is_done) (set book number now) in
      let long = length-set book number now in
      let many = ruled.as_many in
      let small = ruled.small in
      let wide = ruled.wide in
      let fits : (slice_index words 0 + 1) % 2 ^ 64 ≡ slice_index words 0 + 1 = omega arith in record {
        taken = taken;
        wide = length-set words 0 found ∙ wide;
        as_many = long ∙ many;
        small = small;
        next = get_or-set_same words 0 found 0 (omega arith) ∙ is ∙ fits ∙ next;
        within = within;
        full = full;
        once = once;
        hands = λ k hand e. ⊎_elim
            (λ (t : (k ≡ number) × (now ≡ hand)). subst (λ (h : Hand). IsHand len taken h) t.1 mine)
            (λ (t : (k ≢ number) × (get_elem? book k ≡ some hand)). let was = ruled.hands k hand t.1 in let r = was.risen in record { len_is = was.len_is; risen = omega arith })
            (at_set book number k now hand e);
      }

  -- at a position, and past the last one
  draws_case : (b : Bool) (words : List ℕ) (homes : List (Option S)) (book : List Hand) (number : ℕ) (hand : Hand) (ruled : IsDealt len seats words homes book)
      → get_elem? book number ≡ some hand → hand.is_done ≡ false → ltb (slice_index words 0) len ≡ b
      → (now : Hand) → now ≡ cond b (record hand { drawn = hand.drawn ++ slice_index words 0 ∷ [] }) (record hand { is_done = true })
      → IsDealt len seats (slice_set words 0 ((slice_index words 0 + 1) % 2 ^ 64)) homes (set book number now) × (slice_index words 0 < len → above hand.drawn ≤ slice_index words 0)
  draws_case true words homes book number hand ruled at more is now now_is =
      let n : ℕ = slice_index words 0 in
      let lt : n < len = ltb-true n len is in
      let next : n ≡ ruled.taken + count_by (λ (h : Hand). h.is_done) book = ruled.next in
      let none : count_by (λ (h : Hand). h.is_done) book ≡ 0 = ⊎_elim (λ (full : ruled.taken ≡ len). absurd (omega arith)) (λ (e : count_by (λ (h : Hand). h.is_done) book ≡ 0). e) ruled.full in
      let here : n ≡ ruled.taken = omega arith in
      let mine = ruled.hands number hand at in
      let risen : above hand.drawn ≤ ruled.taken = mine.risen in
      let same : now.is_done ≡ hand.is_done = ap (λ (h : Hand). h.is_done) now_is in
      let list : now.drawn ≡ hand.drawn ++ n ∷ [] = ap (λ (h : Hand). h.drawn) now_is in
      let dones = sum_of_set (λ (h : Hand). cond h.is_done 1 0) book number hand now at in
      let done_same : one_if now.is_done ≡ one_if hand.is_done = ap one_if same in
      let none' : count_by (λ (h : Hand). h.is_done) (set book number now) ≡ 0 = omega arith in
      let top : above now.drawn ≡ suc n = ap above list ∙ above-push hand.drawn n in (
        stepped words homes book number hand now ruled at _ refl (ruled.taken + 1) (omega arith) (omega arith) (omega arith) (inr none')
            (λ position.
            let sum = sum_of_set (λ (h : Hand). times position h.drawn) book number hand now at in
            let one = ap (times position) list ∙ times-push position hand.drawn n in
            let was = ruled.once position in
            let grown = once-more position ruled.taken in
            let seen : one_if (n == position) ≡ one_if (ruled.taken == position) = ap (λ (m : ℕ). one_if (m == position)) here in
            omega arith)
            (record { len_is = ap (λ (h : Hand). h.len) now_is ∙ mine.len_is; risen = omega arith }),
        λ _. omega arith,
      )
  draws_case false words homes book number hand ruled at more is now now_is =
      let n : ℕ = slice_index words 0 in
      let ge : len ≤ n = grind (arith, nat_tests) in
      let next : n ≡ ruled.taken + count_by (λ (h : Hand). h.is_done) book = ruled.next in
      let within : ruled.taken ≤ len = ruled.within in
      let full : ruled.taken ≡ len = ⊎_elim (λ (full : ruled.taken ≡ len). full) (λ (e : count_by (λ (h : Hand). h.is_done) book ≡ 0). omega arith) ruled.full in
      let mine = ruled.hands number hand at in
      let risen : above hand.drawn ≤ ruled.taken = mine.risen in
      let list : now.drawn ≡ hand.drawn = ap (λ (h : Hand). h.drawn) now_is in
      let top : above now.drawn ≡ above hand.drawn = ap above list in
      let dones = sum_of_set (λ (h : Hand). cond h.is_done 1 0) book number hand now at in
      let is_one : one_if now.is_done ≡ 1 = ap (λ (h : Hand). one_if h.is_done) now_is in
      let was_zero : one_if hand.is_done ≡ 0 = ap one_if more in (
        stepped words homes book number hand now ruled at _ refl ruled.taken (omega arith) (omega arith) (omega arith) (inl full)
            (λ position.
            let sum = sum_of_set (λ (h : Hand). times position h.drawn) book number hand now at in
            let one = ap (times position) list in
            let was = ruled.once position in
            omega arith)
            (record { len_is = ap (λ (h : Hand). h.len) now_is ∙ mine.len_is; risen = omega arith }),
        λ lt. absurd (omega arith),
      )

  pub draws : (slots number : ℕ) (hand : Hand) → hand.is_done ≡ false
      → Moves {S = S} (IsDealt len seats) slots number hand [] 0 (λ n. (n + 1) % 2 ^ 64) (Drawn (only number hand, []))
  draws slots number hand more words homes book ruled deep at small =
      let n : ℕ = slice_index words 0 in
      let len_is = (ruled.hands number hand at).len_is in
      let c = draws_case (ltb n len) words homes book number hand ruled at more refl (after_draw n hand)
      (ap (λ (l : ℕ). cond (ltb n l) (record hand { drawn = hand.drawn ++ n ∷ [] }) (record hand { is_done = true })) len_is) in (
        after_draw n hand,
        keeps,
        tt,
        c.0,
        record { rises = λ lt. c.1 (subst (λ (l : ℕ). n < l) len_is lt); now_is = λ k e. let same : number ≡ k = ap first_number e in λ i. (only (same i) (after_draw n hand), []) },
      )

  pub begins : length (replicate seats (empty_hand len)) ≡ seats → len < 2 ^ 32 → seats < 2 ^ 32 → (homes : List (Option S)) → IsDealt len seats (0 ∷ []) homes (replicate seats (empty_hand len))
  begins many small few homes = record {
    taken = 0;
    wide = refl;
    as_many = many;
    small = (small, few);
    next = sym (none seats) ∙ sym (zero-add _);
    within = omega arith;
    full = inr (none seats);
    once = λ position. no_times position seats ∙ sym (nothing position);
    hands = λ number hand e. let there = below_length _ number hand e in
        let same : empty_hand len ≡ hand = some-injective _ _ (sym (at_replicate seats number (empty_hand len) (omega arith)) ∙ e) in
        subst (IsHand len 0) same (record { len_is = refl; risen = omega arith });
  }
    where
      none : (n : ℕ) → count_by (λ (h : Hand). h.is_done) (replicate n (empty_hand len)) ≡ 0
      none n = zero_sum (λ (h : Hand). one_if h.is_done) (empty_hand len) refl n

      no_times : (position n : ℕ) → sum_by (λ (h : Hand). times position h.drawn) (replicate n (empty_hand len)) ≡ 0
      no_times position n = zero_sum (λ (h : Hand). times position h.drawn) (empty_hand len) refl n

      nothing : (position : ℕ) → once_below position 0 ≡ 0
      nothing position = grind (arith, nat_tests)

  pub may_draw : (slots token number : ℕ) (me : Me S (List (ℕ × Hand))) → me ≡ (only number (hand_in me.0), []) → (hand_in me.0).is_done ≡ false
      → Allows (Seated (IsDealt {S = S} len seats)) slots token me 0 (λ n. (n + 1) % 2 ^ 64) (Drawn me)
  may_draw slots token number me alone more =
      subst (λ (m : Me S (List (ℕ × Hand))). Allows (Seated (IsDealt {S = S} len seats)) slots token m 0 (λ n. (n + 1) % 2 ^ 64) (Drawn m)) (sym alone)
      (allows (IsDealt {S = S} len seats) slots token number (hand_in me.0) [] 0 (λ n. (n + 1) % 2 ^ 64) (Drawn (only number (hand_in me.0), [])) (draws slots number (hand_in me.0) more))

-- the hand after a draw of a position
pub drew : {S : Type 0} (before now : Me S (List (ℕ × Hand))) (number found : ℕ) → Drawn before found now → before ≡ (only number (hand_in before.0), [])
    → found < (hand_in before.0).len → hand_in now.0 ≡ record (hand_in before.0) { drawn = (hand_in before.0).drawn ++ found ∷ [] }
drew {S} before now number found told alone lt =
    let h = hand_in before.0 in
    let now_is = told.now_is number (ap (λ (m : Me S (List (ℕ × Hand))). m.0) alone) in
    ap (λ (m : Me S (List (ℕ × Hand))). hand_in m.0) now_is ∙ ap (λ (b : Bool). cond b (record h { drawn = h.drawn ++ found ∷ [] }) (record h { is_done = true })) (lt-ltb found h.len lt)
