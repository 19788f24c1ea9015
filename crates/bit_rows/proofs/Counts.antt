-- Counts of bits, kept in lanes.
use Rattle.std.proofs.Common.{◌≡◌, ℕ, ◌+◌, ◌*◌, ◌/◌, ◌%◌, ◌^◌, ◌<◌, ◌≤◌, List, [], ◌∷◌, ◌++◌, length, get_or, map, take, refl, sym, ap, ◌∙◌, arith, w64, Fits}
use Rattle.std.specs.List.{sum_by}
use Rattle.std.specs.Prelude.{count_ones}
use Rattle.std.specs.Simd.Lanes.{zip2, chunk, fold_l, sum_l, Each1}
use Rattle.std.proofs.Math.Seq.{take-add}
use Rattle.std.proofs.lemmas.List.{length-map}
use Rattle.std.proofs.lemmas.List.Sums.{sum_by-append, sum_by-cons}
use Rattle.std.proofs.lemmas.Nat.{ones-le}
use Rattle.std.proofs.lemmas.Simd.{sum_bound, length-zip2, length-chunk, below_from_Fits, chunk-fits}

abbrev wrapping_add : ℕ → ℕ → ℕ
wrapping_add a b = (a + b) % 2 ^ 64

sum_l-map : (ws : List ℕ) → sum_l (map count_ones ws) ≡ sum_by count_ones ws
sum_l-map [] = refl
sum_l-map (w ∷ ws) = ap (λ s. count_ones w + s) (sum_l-map ws) ∙ sym (sum_by-cons count_ones w ws)

-- the lanes with the counts of a block added
module _ (n : ℕ) (room : n + 64 < 2 ^ 64) where
  low_after : (ts ws : List ℕ) → Each1 (λ t. t ≤ n) ts → Each1 (λ w. w < 2 ^ 64) ws → Each1 (λ t. t ≤ n + 64) (zip2 wrapping_add ts (map count_ones ws))
  low_after [] ws low fits = tt
  low_after (t ∷ ts) [] low fits = tt
  low_after (t ∷ ts) (w ∷ ws) low fits = (omega (arith, ones-le 64 w fits.0, low.0), low_after ts ws low.1 fits.1)

  sum_after : (ts ws : List ℕ) → length ts ≡ length ws → Each1 (λ t. t ≤ n) ts → Each1 (λ w. w < 2 ^ 64) ws
      → sum_l (zip2 wrapping_add ts (map count_ones ws)) ≡ sum_l ts + sum_by count_ones ws
  sum_after [] [] e low fits = refl
  sum_after [] (w ∷ ws) e low fits = absurd (omega arith)
  sum_after (t ∷ ts) [] e low fits = absurd (omega arith)
  sum_after (t ∷ ts) (w ∷ ws) e low fits = omega (arith, ones-le 64 w fits.0, low.0, sum_after ts ws (omega arith) low.1 fits.1, sum_by-cons count_ones w ws)

pub lanes_after : (totals words : List ℕ) (block : ℕ) → length words < 2 ^ 32 → block < length words / 8 → ((k : ℕ) → Fits w64 (get_or words k 0))
    → (length totals ≡ 8) × Each1 (λ n. n ≤ 64 * block) totals × (sum_l totals ≡ sum_by count_ones (take (8 * block) words))
    → (ws : List ℕ) → ws ≡ chunk (8 * block) 8 words → (counts : List ℕ) → counts ≡ map count_ones ws → (length (zip2 wrapping_add totals counts) ≡ 8)
    × Each1 (λ n. n ≤ 64 * (block + 1)) (zip2 wrapping_add totals counts)
    × (sum_l (zip2 wrapping_add totals counts) ≡ sum_by count_ones (take (8 * (block + 1)) words))
lanes_after totals words block short within fits before ws is counts counted =
    let long : length ws ≡ 8 = ap length is ∙ length-chunk (8 * block) 8 words (omega arith) in
    let words_fit : Each1 (λ w. w < 2 ^ 64) ws = rw is (below_from_Fits w64 _ (chunk-fits w64 (8 * block) 8 words fits)) in
    let counts_long : length counts ≡ 8 = ap length counted ∙ length-map ws count_ones ∙ long in
    let more : 64 * (block + 1) ≡ 64 * block + 64 = omega arith in
    let places : 8 * (block + 1) ≡ 8 * block + 8 = omega arith in
    let taken : take (8 * (block + 1)) words ≡ take (8 * block) words ++ chunk (8 * block) 8 words = ap (λ n. take n words) places ∙ take-add (8 * block) 8 words in (
      length-zip2 wrapping_add totals counts (before.0 ∙ sym counts_long) ∙ before.0,
      rw (more, counted) (low_after (64 * block) (omega arith) totals ws before.1 words_fit),
      ap (λ l. sum_l (zip2 wrapping_add totals l)) counted ∙ sum_after (64 * block) (omega arith) totals ws (before.0 ∙ sym long) before.1 words_fit
          ∙ ap (λ s. s + sum_by count_ones ws) before.2 ∙ ap (λ l. sum_by count_ones (take (8 * block) words) + sum_by count_ones l) is
          ∙ sym (ap (sum_by count_ones) taken ∙ sum_by-append count_ones (take (8 * block) words) (chunk (8 * block) 8 words)),
    )

fold_total : (a : ℕ) (ts : List ℕ) → a + sum_l ts < 2 ^ 64 → fold_l wrapping_add a ts ≡ a + sum_l ts
fold_total a [] fits = omega arith
fold_total a (t ∷ ts) fits =
    let sum : wrapping_add a t ≡ a + t = omega arith in
    ap (λ s. fold_l wrapping_add s ts) sum ∙ fold_total (a + t) ts (omega arith) ∙ omega arith

pub total_of_lanes : (n : ℕ) (ts : List ℕ) → n < 2 ^ 32 → length ts ≡ 8 → Each1 (λ t. t ≤ 64 * n) ts → (fold_l wrapping_add 0 ts ≡ sum_l ts) × (sum_l ts ≤ 512 * n)
total_of_lanes n ts short long low =
    let bound : sum_l ts ≤ 512 * n = omega (arith, sum_bound (64 * n) ts low, ap (λ l. 64 * n * l) long) in
    (fold_total 0 ts (omega arith) ∙ omega arith, bound)
