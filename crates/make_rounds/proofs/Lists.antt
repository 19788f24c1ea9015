-- Facts of lists: what they contain, and lists of different numbers.
use Rattle.std.proofs.Common.{◌≡◌, ℕ, zero, suc, ◌<◌, ◌≤◌, Bool, true, false, ◌||◌, List, [], ◌∷◌, ◌++◌, length, get_or, map, replicate, refl, ap, subst, inl, inr, ◌⊎◌, arith}
use Rattle.std.proofs.lemmas.Bool.Decides.{nat_tests}
use Rattle.std.proofs.lemmas.List.Elements.{All-contains, All-from_recursion, Contains-append_right}
use Rattle.std.proofs.lemmas.Map.Keys.{IsDistinct-cons, IsDistinct-head, IsDistinct-tail}
use Rattle.std.specs.List.{AllByRecursion, AllZip, IsDistinct, list_any}
use Rattle.std.specs.Prelude.{nat_eq, Contains, flat_map}
use Rattle.claim_board.specs.Lists.{is_in}

module _ {X : Type 0} where
  pub all-kept : (P Q : X → Type 0) → ((x : X) → P x → Q x) → (xs : List X) → AllByRecursion P xs → AllByRecursion Q xs
  all-kept P Q weaker [] all = tt
  all-kept P Q weaker (x ∷ xs) all = (weaker x all.0, all-kept P Q weaker xs all.1)

  pub all-append : (P : X → Type 0) (xs ys : List X) → AllByRecursion P xs → AllByRecursion P ys → AllByRecursion P (xs ++ ys)
  all-append P [] ys all more = more
  all-append P (x ∷ xs) ys all more = (all.0, all-append P xs ys all.1 more)

  pub all-left : (P : X → Type 0) (xs ys : List X) → AllByRecursion P (xs ++ ys) → AllByRecursion P xs
  all-left P [] ys all = tt
  all-left P (x ∷ xs) ys all = (all.0, all-left P xs ys all.1)

  pub all-right : (P : X → Type 0) (xs ys : List X) → AllByRecursion P (xs ++ ys) → AllByRecursion P ys
  all-right P [] ys all = all
  all-right P (x ∷ xs) ys all = all-right P xs ys all.1

  pub all-in : (P : X → Type 0) (xs : List X) (x : X) → AllByRecursion P xs → Contains xs x → P x
  all-in P xs x all there = All-contains P xs x (All-from_recursion P xs all) there

  pub here : (x : X) (xs : List X) → Contains (x ∷ xs) x
  here x xs = (0, omega arith, refl)

  pub behind : (y : X) (xs : List X) (x : X) → Contains xs x → Contains (y ∷ xs) x
  behind y xs x there = Contains-append_right (y ∷ []) xs x there

  at_first : (y : X) (ys : List X) (x : X) (k : ℕ) → k < suc (length ys) → get_or (y ∷ ys) k x ≡ x → (y ≡ x) ⊎ Contains ys x
  at_first y ys x zero within is = inl is
  at_first y ys x (suc k) within is = inr (k, omega arith, is)

  pub first_or : (y : X) (ys : List X) (x : X) → Contains (y ∷ ys) x → (y ≡ x) ⊎ Contains ys x
  first_or y ys x there = at_first y ys x there.0 there.1 there.2

  pub none_in : (x : X) → ¬ Contains [] x
  none_in x there = let within : there.0 < 0 = there.1 in omega arith

  pub all-from : (P : X → Type 0) (xs : List X) → ((x : X) → Contains xs x → P x) → AllByRecursion P xs
  all-from P [] each = tt
  all-from P (x ∷ xs) each = (each x (here x xs), all-from P xs (λ y there. each y (behind x xs y there)))

pub all-replicate : {X : Type 0} (P : X → Type 0) (n : ℕ) (x : X) → P x → AllByRecursion P (replicate n x)
all-replicate P zero x one = tt
all-replicate P (suc n) x one = (one, all-replicate P n x one)

pub all-map : {X Y : Type 0} (P : Y → Type 0) (f : X → Y) (xs : List X) → AllByRecursion (λ x. P (f x)) xs → AllByRecursion P (map f xs)
all-map P f [] all = tt
all-map P f (x ∷ xs) all = (all.0, all-map P f xs all.1)

pub all-of_map : {X Y : Type 0} (P : Y → Type 0) (f : X → Y) (xs : List X) → AllByRecursion P (map f xs) → AllByRecursion (λ x. P (f x)) xs
all-of_map P f [] all = tt
all-of_map P f (x ∷ xs) all = (all.0, all-of_map P f xs all.1)

pub all-flat : {X Y : Type 0} (P : Y → Type 0) (f : X → List Y) (xs : List X) → AllByRecursion (λ x. AllByRecursion P (f x)) xs → AllByRecursion P (flat_map f xs)
all-flat P f [] all = tt
all-flat P f (x ∷ xs) all = all-append P (f x) (flat_map f xs) all.0 (all-flat P f xs all.1)

pub zip-length : {X Y : Type 0} (P : X → Y → Type 0) → (xs : List X) (ys : List Y) → AllZip P xs ys → length ys ≡ length xs
zip-length P [] [] all = refl
zip-length P [] (y ∷ ys) all = absurd all
zip-length P (x ∷ xs) [] all = absurd all
zip-length P (x ∷ xs) (y ∷ ys) all = ap suc (zip-length P xs ys all.1)

-- ---- tests

pub either_false : (a b : Bool) → (a || b) ≡ false → (a ≡ false) × (b ≡ false)
either_false true b none = cc
either_false false b none = (refl, none)

pub either_true : (a b : Bool) → (a || b) ≡ true → (a ≡ true) ⊎ (b ≡ true)
either_true true b some = inl refl
either_true false b some = inr some

pub left_true : (a b : Bool) → a ≡ true → (a || b) ≡ true
left_true true b is = refl
left_true false b is = cc

pub right_true : (a b : Bool) → b ≡ true → (a || b) ≡ true
right_true true b is = refl
right_true false b is = is

pub any_left : {X : Type 0} (test : X → Bool) (xs ys : List X) → list_any test xs ≡ true → list_any test (xs ++ ys) ≡ true
any_left test [] ys is = cc
any_left test (x ∷ xs) ys is =
    elim (test x) as (λ b. (b || list_any test xs) ≡ true → (b || list_any test (xs ++ ys)) ≡ true) [
      | true ↦ λ one. refl
      | false ↦ any_left test xs ys
    ] is

pub any_right : {X : Type 0} (test : X → Bool) (xs ys : List X) → list_any test ys ≡ true → list_any test (xs ++ ys) ≡ true
any_right test [] ys is = is
any_right test (x ∷ xs) ys is = right_true (test x) (list_any test (xs ++ ys)) (any_right test xs ys is)

-- ---- numbers in lists

pub same : (x y : ℕ) → nat_eq x y ≡ true → x ≡ y
same x y h = grind (arith, nat_tests)

pub itself : (x : ℕ) → nat_eq x x ≡ true
itself x = grind (arith, nat_tests)

pub apart : (x y : ℕ) → suc x ≤ y → nat_eq x y ≡ false
apart x y h = grind (arith, nat_tests)

pub in_from : (files : List ℕ) (file : ℕ) → Contains files file → is_in file files ≡ true
in_from [] file there = absurd (none_in file there)
in_from (one ∷ files) file there = elim (first_or one files file there) [
  | inl is ↦ subst (λ other. (nat_eq one other || is_in other files) ≡ true) is (left_true (nat_eq one one) (is_in one files) (itself one))
  | inr rest ↦ right_true (nat_eq one file) (is_in file files) (in_from files file rest)
]

pub from_in : (files : List ℕ) (file : ℕ) → is_in file files ≡ true → Contains files file
from_in [] file is = cc
from_in (one ∷ files) file is = elim (either_true (nat_eq one file) (is_in file files) is) [
  | inl first ↦ subst (Contains (one ∷ files)) (same one file first) (here one files)
  | inr rest ↦ behind one files file (from_in files file rest)
]

-- ---- different numbers

pub distinct-append : (xs ys : List ℕ) → IsDistinct nat_eq xs → IsDistinct nat_eq ys → AllByRecursion (λ y. is_in y xs ≡ false) ys → IsDistinct nat_eq (xs ++ ys)
distinct-append [] ys one two differ = two
distinct-append (x ∷ xs) ys one two differ =
    IsDistinct-cons nat_eq x (xs ++ ys)
    (all-append (λ y. nat_eq x y ≡ false) xs ys (IsDistinct-head nat_eq x xs one) (all-kept (λ y. is_in y (x ∷ xs) ≡ false) (λ y. nat_eq x y ≡ false) (λ y none. (either_false (nat_eq x y) (is_in y xs) none).0) ys differ))
    (distinct-append xs ys (IsDistinct-tail nat_eq x xs one) two (all-kept (λ y. is_in y (x ∷ xs) ≡ false) (λ y. is_in y xs ≡ false) (λ y none. (either_false (nat_eq x y) (is_in y xs) none).1) ys differ))
