-- Different numbers among others count no more than these.
use Rattle.std.proofs.Common.{◌≡◌, ℕ, ◌+◌, ◌≤◌, Bool, true, false, ◌||◌, cond, List, [], ◌∷◌, length, map, refl, sym, ap, ◌∙◌, arith}
use Rattle.std.proofs.lemmas.Bool.Decides.{Decides-eqb, nat_tests}
use Rattle.std.proofs.lemmas.List.Sorted.{IsPermutation-refl}
use Rattle.std.proofs.lemmas.List.Sums.{sum_by-cons}
use Rattle.std.proofs.lemmas.Map.Keys.{IsDistinct-head, IsDistinct-tail}
use Rattle.std.proofs.lemmas.Map.Made.{sum_by-remove_same}
use Rattle.std.specs.List.{AllByRecursion, IsDistinct, list_any, sum_by}
use Rattle.std.specs.Prelude.{nat_eq}
use Rattle.std.specs.Set.{remove_key}

apart : (x y z : ℕ) → nat_eq x y ≡ false → nat_eq x z ≡ true → nat_eq y z ≡ false
apart x y z differs same = grind (arith, nat_tests)

kept_by : (x y z : ℕ) (zs : List ℕ) → nat_eq x y ≡ false → list_any (nat_eq y) (z ∷ zs) ≡ true → (list_any (nat_eq y) zs ≡ true → list_any (nat_eq y) (remove_key (nat_eq x) zs) ≡ true)
    → (b : Bool) → nat_eq x z ≡ b → list_any (nat_eq y) (cond b zs (z ∷ remove_key (nat_eq x) zs)) ≡ true
kept_by x y z zs differs there rest true same = rw (apart x y z differs same) at there
kept_by x y z zs differs there rest false other =
    elim (nat_eq y z) as (λ b. (b || list_any (nat_eq y) zs) ≡ true → (b || list_any (nat_eq y) (remove_key (nat_eq x) zs)) ≡ true) [
      | true ↦ λ one. refl
      | false ↦ rest
    ] there

kept : (x y : ℕ) (zs : List ℕ) → nat_eq x y ≡ false → list_any (nat_eq y) zs ≡ true → list_any (nat_eq y) (remove_key (nat_eq x) zs) ≡ true
kept x y [] differs there = there
kept x y (z ∷ zs) differs there = kept_by x y z zs differs there (kept x y zs differs) (nat_eq x z) refl

all_kept : (x : ℕ) (xs ys : List ℕ) → AllByRecursion (λ y. nat_eq x y ≡ false) xs → AllByRecursion (λ y. list_any (nat_eq y) ys ≡ true) xs
    → AllByRecursion (λ y. list_any (nat_eq y) (remove_key (nat_eq x) ys) ≡ true) xs
all_kept x [] ys differ there = tt
all_kept x (y ∷ xs) ys differ there = (kept x y ys differ.0 there.0, all_kept x xs ys differ.1 there.1)

pub sum_within : (f : ℕ → ℕ) (xs ys : List ℕ) → IsDistinct nat_eq xs → AllByRecursion (λ x. list_any (nat_eq x) ys ≡ true) xs → sum_by f xs ≤ sum_by f ys
sum_within f [] ys distinct there = omega arith
sum_within f (x ∷ xs) ys distinct there =
    let rest = remove_key (nat_eq x) ys in
    let smaller = sum_within f xs rest (IsDistinct-tail nat_eq x xs distinct) (all_kept x xs ys (IsDistinct-head nat_eq x xs distinct) there.1) in
    let whole : sum_by f rest + cond (list_any (nat_eq x) ys) (f x) 0 ≡ sum_by f ys = sum_by-remove_same f Decides-eqb x ys rest (IsPermutation-refl rest) in
    let whole' : sum_by f rest + f x ≡ sum_by f ys = rw there.0 at whole in
    let more = sum_by-cons f x xs in
    omega (arith, smaller, whole', more)

pub sum_of_map : {X : Type 0} (g : X → ℕ) (f : ℕ → X) (xs : List ℕ) → sum_by g (map f xs) ≡ sum_by (λ x. g (f x)) xs
sum_of_map g f [] = refl
sum_of_map g f (x ∷ xs) = sum_by-cons g (f x) (map f xs) ∙ ap (λ n. g (f x) + n) (sum_of_map g f xs) ∙ sym (sum_by-cons (λ x. g (f x)) x xs)

pub length_of_map : {X : Type 0} (f : ℕ → X) (xs : List ℕ) → length (map f xs) ≡ sum_by (λ x. 1) xs
length_of_map f [] = refl
length_of_map f (x ∷ xs) = let rest = length_of_map f xs in let more = sum_by-cons (λ (x : ℕ). 1) x xs in omega (arith, rest, more)
