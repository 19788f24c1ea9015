-- The true places of a row, from a place on.
use Rattle.std.proofs.Common.{◌≡◌, ℕ, ◌+◌, ◌-◌, ◌<◌, ◌≤◌, zero, suc, Bool, true, false, List, [], ◌∷◌, get_or, length, refl, sym, ap, ◌∙◌, inl, inr, arith}
use Rattle.std.specs.List.{range_with_len, filter}
use Rattle.std.specs.Prelude.{if◌then◌else◌}
use Rattle.std.proofs.lemmas.Bool.{cases_lt, cond-false, false≢true}
use Rattle.std.proofs.lemmas.List.{get_or_past}
use Rattle.bit_rows.specs.Places.{NoneTrue, IsNext}
use Rattle.chunk_graph.specs.Chunks.{is_in}
use Rattle.chunk_code.specs.Texts.{members_in}

abbrev pub members_after : ℕ → List Bool → List ℕ
members_after at row = filter (is_in row) (range_with_len at (length row - at))

is_in-below : (row : List Bool) (i : ℕ) → is_in row i ≡ true → i < length row
is_in-below row i h = elim (cases_lt i (length row)) [ inl lt ↦ lt | inr ge ↦ absurd (false≢true (sym (get_or_past row i false ge) ∙ h)) ]

-- a filtered range begins at the first number that passes
filter_skip : (p : ℕ → Bool) (a n b : ℕ) → ((k : ℕ) → a ≤ k → k < a + b → p k ≡ false) → b ≤ n → filter p (range_with_len a n) ≡ filter p (range_with_len (a + b) (n - b))
filter_skip p a n zero none le = let e : a + 0 ≡ a = omega arith in let f : n - 0 ≡ n = omega arith in rw (e, f) refl
filter_skip p a zero (suc b) none le = absurd (omega arith)
filter_skip p a (suc n) (suc b) none le =
    let e : a + 1 + b ≡ a + suc b = omega arith in
    let f : suc n - suc b ≡ n - b = omega arith in
    cond-false (p a) _ _ (none a (omega arith) (omega arith)) ∙ filter_skip p (a + 1) n b (λ k l h. none k (omega arith) (omega arith)) (omega arith)
    ∙ ap (λ x. filter p (range_with_len x (n - b))) e ∙ ap (λ x. filter p (range_with_len (a + suc b) x)) (sym f)

pub after_none : (row : List Bool) (at : ℕ) → NoneTrue row at (length row) → members_after at row ≡ []
after_none row at none =
    let n = length row - at in
    let f : n - n ≡ 0 = omega arith in
    filter_skip (is_in row) at n n (λ k l h. none k l (omega arith)) (omega arith) ∙ ap (λ x. filter (is_in row) (range_with_len (at + n) x)) f

pub after_next : (row : List Bool) (at i : ℕ) → IsNext row at i → members_after at row ≡ i ∷ members_after (i + 1) row
after_next row at i next =
    let n = length row - at in
    let b = i - at in
    let lt = is_in-below row i next.is_true in
    let low = next.not_below in
    let e : at + b ≡ i = omega arith in
    let f : n - b ≡ suc (length row - (i + 1)) = omega arith in
    let skipped : members_after at row ≡ filter (is_in row) (range_with_len i (suc (length row - (i + 1)))) =
    filter_skip (is_in row) at n b (λ k l h. next.least k l (omega arith)) (omega arith)
    ∙ ap (λ x. filter (is_in row) (range_with_len x (n - b))) e ∙ ap (λ x. filter (is_in row) (range_with_len i x)) f in
    skipped ∙ ap (λ b. if b then i ∷ members_after (i + 1) row else members_after (i + 1) row) next.is_true

below_next : (b : Bool) (a high i : ℕ) (rest : List ℕ) → a < high → ((j : ℕ) → j < length rest → get_or rest j 0 < high)
    → i < length (if b then a ∷ rest else rest) → get_or (if b then a ∷ rest else rest) i 0 < high
below_next true a high zero rest first others within = first
below_next true a high (suc i) rest first others within = others i (omega arith)
below_next false a high i rest first others within = others i within

filter_below : (p : ℕ → Bool) (a n high i : ℕ) → a + n ≤ high → i < length (filter p (range_with_len a n)) → get_or (filter p (range_with_len a n)) i 0 < high
filter_below p a zero high i le within = absurd (omega arith)
filter_below p a (suc n) high i le within =
    below_next (p a) a high i (filter p (range_with_len (a + 1) n)) (omega arith) (λ j h. filter_below p (a + 1) n high j (omega arith) h) within

-- each member has a place in the row
pub members_below : (row : List Bool) (i : ℕ) → i < length (members_in row) → get_or (members_in row) i 0 < length row
members_below row i within = filter_below (is_in row) 0 (length row) (length row) i (omega arith) within
