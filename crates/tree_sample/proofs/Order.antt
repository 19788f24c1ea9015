-- Paths that differ in a number of digits stand in the order of their numbers.
use Rattle.std.proofs.Common.{◌≡◌, ℕ, zero, suc, ◌+◌, ◌*◌, ◌/◌, ◌%◌, ◌<◌, ◌≤◌, ◌^◌, ◌⊎◌, inl, inr, List, [], ◌∷◌, ◌++◌, Ordering, refl, sym, ap, ◌∙◌, subst, arith}
use Rattle.std.proofs.lemmas.Bool.{lt-ltb, le-ltb, eq-eqb, ne_eqb}
use Rattle.std.proofs.lemmas.Cmp.{tied_itself, nat_cmp_total}
use Rattle.std.proofs.lemmas.List.{append_assoc}
use Rattle.std.specs.declared.cmp.Ordering.TheVariants.{Less, Equal, Greater}
use Rattle.std.specs.Ordering.{nat_cmp, ordering_then, ordering_reverse}
use Rattle.std.specs.Cmp.Lexicographic.{slice_cmp}
use Rattle.tree_sample.specs.Sample.{digits}

abbrev pub order : List ℕ → List ℕ → Ordering
order = slice_cmp nat_cmp

pub same_front : (front xs ys : List ℕ) → order (front ++ xs) (front ++ ys) ≡ order xs ys
same_front [] xs ys = refl
same_front (x ∷ front) xs ys = ap (λ o. ordering_then o (order (front ++ xs) (front ++ ys))) (tied_itself nat_cmp_total x) ∙ same_front front xs ys

nat_greater : (x y : ℕ) → y < x → nat_cmp x y ≡ Greater
nat_greater x y less = rw (le-ltb x y (omega (arith, less)), ne_eqb x y (λ e. omega (arith, less, e))) refl

greater_first : (x y : ℕ) (xs ys : List ℕ) → y < x → order (x ∷ xs) (y ∷ ys) ≡ Greater
greater_first x y xs ys less = ap (λ o. ordering_then o (order xs ys)) (nat_greater x y less)

front_or_last : (n m : ℕ) → n < m → (n / 10 < m / 10) ⊎ ((n / 10 ≡ m / 10) × (n % 10 < m % 10))
front_or_last n m less = grind (arith)

fewer_by : (count m : ℕ) → m < 10 ^ suc count → m / 10 < 10 ^ count
fewer_by count m few =
    let power : 10 ^ suc count ≡ 10 * 10 ^ count = search (arith) in
    omega (arith, few, power)

pub greater_digits : (count n m : ℕ) (xs ys : List ℕ) → n < m → m < 10 ^ count → order (digits count m ++ xs) (digits count n ++ ys) ≡ Greater
unfolding digits
greater_digits zero n m xs ys less few = absurd (omega (arith, less, few))
greater_digits (suc count) n m xs ys less few =
    let high = digits count (m / 10) in
    let low = digits count (n / 10) in
    let split : order ((high ++ (48 + m % 10) ∷ []) ++ xs) ((low ++ (48 + n % 10) ∷ []) ++ ys) ≡ order (high ++ (48 + m % 10) ∷ xs) (low ++ (48 + n % 10) ∷ ys) =
    ap (λ zs. order zs ((low ++ (48 + n % 10) ∷ []) ++ ys)) (append_assoc high ((48 + m % 10) ∷ []) xs)
    ∙ ap (λ zs. order (high ++ (48 + m % 10) ∷ xs) zs) (append_assoc low ((48 + n % 10) ∷ []) ys) in
    let fewer : m / 10 < 10 ^ count = fewer_by count m few in
    split ∙ elim (front_or_last n m less) [
      | inl h ↦ greater_digits count (n / 10) (m / 10) ((48 + m % 10) ∷ xs) ((48 + n % 10) ∷ ys) h fewer
      | inr h ↦ ap (λ zs. order (high ++ (48 + m % 10) ∷ xs) (zs ++ (48 + n % 10) ∷ ys)) (ap (digits count) h.0)
          ∙ same_front high ((48 + m % 10) ∷ xs) ((48 + n % 10) ∷ ys)
          ∙ greater_first (48 + m % 10) (48 + n % 10) xs ys (omega (arith, h.1))
    ]

-- and so do paths with the same front
pub greater_path : (front : List ℕ) (count n m : ℕ) (xs : List ℕ) → n < m → m < 10 ^ count → order (front ++ (digits count m ++ xs)) (front ++ (digits count n ++ xs)) ≡ Greater
greater_path front count n m xs less few = same_front front (digits count m ++ xs) (digits count n ++ xs) ∙ greater_digits count n m xs xs less few
