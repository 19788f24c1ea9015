-- What a search by halving finds among ascending numbers.
use Rattle.std.proofs.Common.{◌≡◌, ℕ, zero, suc, ◌+◌, ◌-◌, ◌<◌, ◌≤◌, ◌⊎◌, ◌==◌, true, false, List, [], ◌∷◌, map, length, get_or, Some, None, Err, refl, sym, ap, ◌∙◌, arith, inl, inr}
use Rattle.std.specs.Prelude.{position}
use Rattle.std.proofs.lemmas.Bool.{cases_lt, lt-ltb, le-ltb}
use Rattle.std.proofs.lemmas.Bool.Decides.{nat_tests}
use Rattle.std.proofs.lemmas.Cmp.{ranked, nat_cmp_total}
use Rattle.std.proofs.lemmas.List.{get_or-map, length-map}
use Rattle.std.proofs.lemmas.List.Sums.{position_or_len_is}
use Rattle.std.proofs.lemmas.List.Sorted.{searchable_from_sorted}
use Rattle.std.specs.List.{position_or_len}
use Rattle.std.specs.List.Sorted.{IsStrictlyIncreasing, IsSortedBy, IsBinarySearchResult, IsPartitionPoint}
use Rattle.std.specs.Ordering.{nat_cmp, is_lt}
use Rattle.std.specs.Cmp.{nat_cmp_is}
use Rattle.std.specs.declared.cmp.Ordering.TheVariants.{Less, Equal, Greater}

is_same : (x y : ℕ) → x ≡ y → (x == y) ≡ true
is_same x y h = grind (arith, nat_tests)

is_other : (x y : ℕ) → (x ≡ y → ⊥) → (x == y) ≡ false
is_other x y h = grind (arith, nat_tests)

-- each number is below every later one
pub rising : (xs : List ℕ) → IsStrictlyIncreasing xs → (i n : ℕ) → i + suc n < length xs → get_or xs i 0 < get_or xs (i + suc n) 0
rising xs up i zero within =
    let next : get_or xs i 0 < get_or xs (i + 1) 0 = up i (omega arith) in
    next
rising xs up i (suc n) within =
    let before = rising xs up i n (omega arith) in
    let next : get_or xs (i + suc n) 0 < get_or xs ((i + suc n) + 1) 0 = up (i + suc n) (omega arith) in
    let same : (i + suc n) + 1 ≡ i + suc (suc n) = omega arith in
    let last : get_or xs (i + suc n) 0 < get_or xs (i + suc (suc n)) 0 = rw same at next in
    omega arith

pub rises : (xs : List ℕ) → IsStrictlyIncreasing xs → (i j : ℕ) → i < j → j < length xs → get_or xs i 0 < get_or xs j 0
rises xs up i zero before within = absurd (omega arith)
rises xs up i (suc j) before within =
    let same : i + suc (j - i) ≡ suc j = omega arith in
    let at : i + suc (j - i) < length xs = omega arith in
    rw same at (rising xs up i (j - i) at)

pub found_number : (xs : List ℕ) (number place : ℕ) → IsStrictlyIncreasing xs → place < length xs → get_or xs place 0 ≡ number → Some place ≡ position (λ x. x == number) xs
found_number xs number place up within is =
    let first : position_or_len (λ x. x == number) xs ≡ place =
    position_or_len_is (λ x. x == number) xs place 0 (omega arith)
    (λ k before. is_other _ _ (λ same. let below = rises xs up k place before within in omega arith))
    (λ _. is_same _ _ is) in
    let inside = lt-ltb place (length xs) within in
    rw (first, inside)

pub missed_number : (xs : List ℕ) (number : ℕ) → ((k : ℕ) → k < length xs → get_or xs k 0 ≡ number → ⊥) → None ≡ position (λ x. x == number) xs
missed_number xs number never =
    let first : position_or_len (λ x. x == number) xs ≡ length xs =
    position_or_len_is (λ x. x == number) xs (length xs) 0 (omega arith)
    (λ k within. is_other _ _ (never k within))
    (λ past. absurd (omega arith)) in
    let outside = le-ltb (length xs) (length xs) (omega arith) in
    rw (first, outside)

module _ {X : Type 0} (key : X → ℕ) where
  pub found : (xs : List X) (number place : ℕ) → IsStrictlyIncreasing (map key xs) → place < length xs → ((d : X) → nat_cmp (key (get_or xs place d)) number ≡ Equal) → Some place ≡ position (λ x. x == number) (map key xs)
  found [] number place up within at = absurd (omega arith)
  found (first ∷ rest) number place up within at =
      let is : key (get_or (first ∷ rest) place first) ≡ number = ranked _ number Equal (sym (at first)) in
      let there : place < length (map key (first ∷ rest)) = rw length-map within in
      found_number (map key (first ∷ rest)) number place up there (get_or-map key (first ∷ rest) place first 0 within ∙ is)

  sorted : (xs : List X) → IsStrictlyIncreasing (map key xs) → IsSortedBy (λ one other. is_lt (nat_cmp (key one) (key other))) xs
  sorted xs up k d low within =
      let there : k + 1 < length (map key xs) = rw length-map within in
      let here : k < length xs = omega arith in
      let rise : get_or (map key xs) k 0 < get_or (map key xs) (k + 1) 0 = up k there in
      let below : key (get_or xs k d) < key (get_or xs (k + 1) d) = rw (get_or-map key xs k d 0 here, get_or-map key xs (k + 1) d 0 within) at rise in
      ap is_lt (sym (nat_cmp_is (key (get_or xs (k + 1) d)) (key (get_or xs k d)) Greater below))

  apart : (xs : List X) (number place : ℕ) → IsPartitionPoint (λ x. nat_cmp (key x) number ≡ Less) (λ x. nat_cmp (key x) number ≡ Greater) xs place → (d : X) (k : ℕ) → k < length xs → (k < place) ⊎ (place ≤ k) → key (get_or xs k d) ≡ number → ⊥
  apart xs number place parts d k within (inl before) same =
      let below : key (get_or xs k d) < number = ranked _ number Less (sym (parts.0 k d (omega arith) before)) in omega arith
  apart xs number place parts d k within (inr after) same =
      let above : number < key (get_or xs k d) = ranked _ number Greater (sym (parts.1 k d after within)) in omega arith

  pub missed : (xs : List X) (number place : ℕ) → IsStrictlyIncreasing (map key xs) → IsBinarySearchResult (λ x. nat_cmp (key x) number) xs (Err place) → None ≡ position (λ x. x == number) (map key xs)
  missed [] number place up result = refl
  missed (first ∷ rest) number place up result =
      let parts = result (searchable_from_sorted nat_cmp_total key (first ∷ rest) number (sorted (first ∷ rest) up)) in
      missed_number (map key (first ∷ rest)) number (λ k within same.
      let here : k < length (first ∷ rest) = rw length-map at within in
      apart (first ∷ rest) number place parts first k here (cases_lt k place) (sym (get_or-map key (first ∷ rest) k first 0 here) ∙ same))
