-- Places of rows that are put together, and how many are true.
use Rattle.std.proofs.Common.{◌≡◌, ℕ, ◌+◌, ◌<◌, ◌≤◌, ◌⊎◌, inl, inr, Bool, true, false, ◌&&◌, ◌||◌, cond, List, [], ◌∷◌, length, set, refl, sym, ap, ◌∙◌, arith}
use Rattle.std.specs.Prelude.{IsTrue}
use Rattle.std.proofs.lemmas.Bool.{cases_lt}
use Rattle.std.proofs.lemmas.List.{get_or_past}
use Rattle.std.proofs.lemmas.List.Sums.{sum_by-set, sum_by-cons}
use Rattle.std.proofs.lemmas.Simd.{get_or-zip2, length-zip2}
use Rattle.bit_rows.specs.Places.{meet, union}
use Rattle.chunk_groups.specs.Rows.{bit}
use Rattle.avail_sets.specs.inner.Falling.{trues}

pub and-left : (a b : Bool) → IsTrue (a && b) → IsTrue a
and-left true b h = refl
and-left false b h = h

pub and-right : (a b : Bool) → IsTrue (a && b) → IsTrue b
and-right true b h = h
and-right false b h = absurd cc

pub and-both : (a b : Bool) → IsTrue a → IsTrue b → IsTrue (a && b)
and-both true b h k = k
and-both false b h k = h

pub and-rest : (a b : Bool) → IsTrue a → (a && b) ≡ false → b ≡ false
and-rest true b h k = k
and-rest false b h k = absurd cc

pub or-cases : (a b : Bool) → IsTrue (a || b) → IsTrue a ⊎ IsTrue b
or-cases true b h = inl refl
or-cases false b h = inr h

pub or-none : (a b : Bool) → (a || b) ≡ false → (a ≡ false) × (b ≡ false)
or-none true b h = absurd cc
or-none false b h = (refl, h)

pub bit-meet : (xs ys : List Bool) (m : ℕ) → length xs ≡ length ys → bit (meet xs ys) m ≡ (bit xs m && bit ys m)
bit-meet xs ys m e = elim (cases_lt m (length xs)) [
  | inl l ↦ get_or-zip2 (λ x y. x && y) xs ys m false false false l (omega arith)
  | inr g ↦
      let none : bit xs m ≡ false = get_or_past xs m false g in
      get_or_past (meet xs ys) m false (omega (arith, length-zip2 (λ x y. x && y) xs ys e)) ∙ sym (ap (λ b. b && bit ys m) none)
]

pub bit-union : (xs ys : List Bool) (m : ℕ) → length xs ≡ length ys → bit (union xs ys) m ≡ (bit xs m || bit ys m)
bit-union xs ys m e = elim (cases_lt m (length xs)) [
  | inl l ↦ get_or-zip2 (λ x y. x || y) xs ys m false false false l (omega arith)
  | inr g ↦
      let none : bit xs m ≡ false = get_or_past xs m false g in
      let other : bit ys m ≡ false = get_or_past ys m false (omega arith) in
      get_or_past (union xs ys) m false (omega (arith, length-zip2 (λ x y. x || y) xs ys e)) ∙ sym (ap (λ b. b || bit ys m) none ∙ other)
]

tally : (x : Bool) (xs : List Bool) → trues (x ∷ xs) ≡ cond {A = ℕ} x 1 0 + trues xs
tally x xs = sum_by-cons (λ b. cond {A = ℕ} b 1 0) x xs

meet-no-more : (xs ys : List Bool) → trues (meet xs ys) ≤ trues xs
meet-no-more [] ys = omega arith
meet-no-more (x ∷ xs) [] = omega arith
meet-no-more (true ∷ xs) (true ∷ ys) = omega (arith, meet-no-more xs ys, tally true xs, tally true (meet xs ys))
meet-no-more (true ∷ xs) (false ∷ ys) = omega (arith, meet-no-more xs ys, tally true xs, tally false (meet xs ys))
meet-no-more (false ∷ xs) (y ∷ ys) = omega (arith, meet-no-more xs ys, tally false xs, tally false (meet xs ys))

-- a row that is met with another is the same, or has fewer true places
pub meet-fewer : (xs ys : List Bool) → length xs ≡ length ys → (meet xs ys ≡ xs) ⊎ (trues (meet xs ys) < trues xs)
meet-fewer [] ys e = inl refl
meet-fewer (x ∷ xs) [] e = absurd (omega arith)
meet-fewer (true ∷ xs) (true ∷ ys) e = elim (meet-fewer xs ys (omega arith)) [ inl same ↦ inl (ap (λ l. true ∷ l) same) | inr less ↦ inr (omega (arith, less, tally true xs, tally true (meet xs ys))) ]
meet-fewer (true ∷ xs) (false ∷ ys) e = inr (omega (arith, meet-no-more xs ys, tally true xs, tally false (meet xs ys)))
meet-fewer (false ∷ xs) (y ∷ ys) e = elim (meet-fewer xs ys (omega arith)) [ inl same ↦ inl (ap (λ l. false ∷ l) same) | inr less ↦ inr (omega (arith, less, tally false xs, tally false (meet xs ys))) ]

pub trues-set : (row : List Bool) (k : ℕ) (b : Bool) → k < length row → trues (set row k b) + cond {A = ℕ} (bit row k) 1 0 ≡ trues row + cond {A = ℕ} b 1 0
trues-set row k b within = sum_by-set (λ x. cond x 1 0) row k b false within

pub trues-cleared : (row : List Bool) (k : ℕ) → k < length row → IsTrue (bit row k) → trues (set row k false) + 1 ≡ trues row
trues-cleared row k within is =
    let one : cond {A = ℕ} (bit row k) 1 0 ≡ 1 = ap (λ b. cond {A = ℕ} b 1 0) is in
    omega (arith, trues-set row k false within, one)

pub trues-added : (row : List Bool) (k : ℕ) → k < length row → trues (set row k true) ≤ trues row + 1
trues-added row k within = omega (arith, trues-set row k true within)
