-- Different numbers that a sort has put in order ascend.
use Rattle.std.proofs.Common.{◌≡◌, ℕ, ◌<◌, false, List, [], ◌∷◌, ◌++◌, map, length, arith}
use Rattle.std.proofs.lemmas.Cmp.{nat_eq_equiv}
use Rattle.std.proofs.lemmas.List.{get_or-map, length-map}
use Rattle.std.proofs.lemmas.List.Sorted.{IsPermutation-map}
use Rattle.std.proofs.lemmas.Map.Keys.{IsDistinct-IsPermutation, IsStrictlyIncreasing-from_distinct, IsDistinct-head, IsDistinct-tail, IsDistinct-cons}
use Rattle.std.specs.List.{IsDistinct}
use Rattle.std.specs.List.Sorted.{IsPermutation, IsNonDecreasing, IsNonDecreasingBy, IsStrictlyIncreasing}
use Rattle.std.specs.Prelude.{nat_eq}
use Rattle.make_rounds.proofs.Lists.{all-left}

module _ {X : Type 0} (key : X → ℕ) where
  rising : (xs : List X) → IsNonDecreasingBy key xs → IsNonDecreasing (map key xs)
  rising [] up i j d before within = absurd (omega arith)
  rising (first ∷ rest) up i j d before within =
      let inside : j < length (first ∷ rest) = rw length-map at within in
      let here : i < length (first ∷ rest) = omega arith in
      let below = up i j first before inside in
      rw (get_or-map key (first ∷ rest) i first d here, get_or-map key (first ∷ rest) j first d inside) below

  pub ascending : (xs ys : List X) → IsPermutation xs ys → IsNonDecreasingBy key ys → IsDistinct nat_eq (map key xs) → IsStrictlyIncreasing (map key ys)
  ascending xs ys same up distinct =
      IsStrictlyIncreasing-from_distinct (map key ys) (rising ys up)
      (IsDistinct-IsPermutation nat_eq nat_eq_equiv.symm (map key xs) (map key ys) (IsPermutation-map key xs ys same) distinct)

pub distinct-front : (xs ys : List ℕ) → IsDistinct nat_eq (xs ++ ys) → IsDistinct nat_eq xs
unfolding IsDistinct
distinct-front [] ys distinct = tt
distinct-front (x ∷ xs) ys distinct =
    IsDistinct-cons nat_eq x xs
    (all-left (λ y. nat_eq x y ≡ false) xs ys (IsDistinct-head nat_eq x (xs ++ ys) distinct))
    (distinct-front xs ys (IsDistinct-tail nat_eq x (xs ++ ys) distinct))

pub distinct_none : IsDistinct nat_eq []
unfolding IsDistinct
distinct_none = tt
