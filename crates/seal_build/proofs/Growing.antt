-- Lists that grow by one place after another, where some places are left out, and the sums over them.
use Rattle.std.proofs.Common.{◌≡◌, ℕ, zero, suc, ◌+◌, ◌-◌, ◌<◌, ◌≤◌, Bool, true, false, List, [], ◌∷◌, ◌++◌, map, filter, refl, sym, ap, ◌∙◌, append-nil, arith}
use Rattle.std.specs.List.{range_with_len, sum_by}
use Rattle.std.proofs.lemmas.Bool.{cond-true, cond-false}
use Rattle.std.proofs.lemmas.List.{map_push, map-append}
use Rattle.std.proofs.lemmas.List.Elements.{filter-append}
use Rattle.std.proofs.lemmas.List.FromFn.{map-range_with_len_more}
use Rattle.std.proofs.lemmas.List.Sums.{sum_by-append, sum_by_push}
use Rattle.stats_text.proofs.Held.{range-more}

filter-more : (p : ℕ → Bool) (n : ℕ) → filter p (range_with_len 0 (n + 1)) ≡ filter p (range_with_len 0 n) ++ filter p (n ∷ [])
filter-more p n = ap (filter p) (range-more n) ∙ filter-append p (range_with_len 0 n) (n ∷ [])

pub picked-more : {Y : Type 0} (p : ℕ → Bool) (f : ℕ → Y) (n : ℕ) (y : Y) (old new : List Y) → p n ≡ true → old ≡ map f (filter p (range_with_len 0 n)) → new ≡ old ++ y ∷ [] → y ≡ f n
    → new ≡ map f (filter p (range_with_len 0 (n + 1)))
picked-more p f n y old new passes before next is =
    let front = filter p (range_with_len 0 n) in
    next ∙ ap (λ l. l ++ y ∷ []) before ∙ ap (λ z. map f front ++ z ∷ []) is ∙ sym (map_push f front n)
    ∙ sym (ap (map f) (filter-more p n ∙ ap (λ l. front ++ l) (cond-true (p n) (n ∷ []) [] passes)))

pub skipped-more : {Y : Type 0} (p : ℕ → Bool) (f : ℕ → Y) (n : ℕ) (old : List Y) → p n ≡ false → old ≡ map f (filter p (range_with_len 0 n)) → old ≡ map f (filter p (range_with_len 0 (n + 1)))
skipped-more p f n old fails before =
    let front = filter p (range_with_len 0 n) in
    before ∙ sym (ap (map f) (filter-more p n ∙ ap (λ l. front ++ l) (cond-false (p n) (n ∷ []) [] fails) ∙ append-nil front))

-- ---- sums

grows_by : (S : ℕ → ℕ) → ((k : ℕ) → S k ≤ S (k + 1)) → (d k n : ℕ) → k + d ≡ n → S k ≤ S n
grows_by S step zero k n e = let same : k ≡ n = omega (arith, e) in omega (arith, ap S same)
grows_by S step (suc d) k n e = let rest : S (k + 1) ≤ S n = grows_by S step d (k + 1) n (omega (arith, e)) in omega (arith, step k, rest)

grows : (S : ℕ → ℕ) → ((k : ℕ) → S k ≤ S (k + 1)) → (k n : ℕ) → k ≤ n → S k ≤ S n
grows S step k n le = grows_by S step (n - k) k n (omega arith)

module _ {Y : Type 0} (size : Y → ℕ) (f : ℕ → Y) where
  abbrev picked : (ℕ → Bool) → ℕ → ℕ
  picked p n = sum_by size (map f (filter p (range_with_len 0 n)))

  picked_step : (p : ℕ → Bool) (k : ℕ) → picked p k ≤ picked p (k + 1)
  picked_step p k =
      let front = filter p (range_with_len 0 k) in
      let more = ap (λ l. sum_by size (map f l)) (filter-more p k) ∙ ap (sum_by size) (map-append f front (filter p (k ∷ []))) in
      omega (arith, more, sum_by-append size (map f front) (map f (filter p (k ∷ []))))

  pub picked-within : (p : ℕ → Bool) (n end : ℕ) → p n ≡ true → n < end → picked p n + size (f n) ≤ picked p end
  picked-within p n end passes lt =
      let old = map f (filter p (range_with_len 0 n)) in
      let more = ap (sum_by size) (picked-more p f n (f n) old (old ++ f n ∷ []) passes refl refl refl) in
      omega (arith, more, sum_by_push size old (f n), grows (picked p) (picked_step p) (n + 1) end (omega arith))

  abbrev ranged : ℕ → ℕ
  ranged n = sum_by size (map f (range_with_len 0 n))

  ranged_more : (k : ℕ) → ranged (k + 1) ≡ ranged k + size (f k)
  ranged_more k = ap (sum_by size) (map-range_with_len_more f 0 k k (omega arith)) ∙ sum_by_push size (map f (range_with_len 0 k)) (f k)

  pub ranged-within : (n end : ℕ) → n < end → ranged n + size (f n) ≤ ranged end
  ranged-within n end lt = omega (arith, ranged_more n, grows ranged (λ k. omega (arith, ranged_more k)) (n + 1) end (omega arith))
