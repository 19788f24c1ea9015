-- Lists put together (this project).
use Rattle.std.proofs.Common.{◌≡◌, ℕ, zero, suc, ◌<◌, get_or, arith, Bool, true, false, ◌||◌, ◌==◌, List, [], ◌∷◌, ◌++◌, length, drop, refl, ◌∙◌}
use Rattle.std.specs.Prelude.{nat_eq, IfOk, Result, Ok, Err}
use Rattle.std.specs.List.{list_any, AllByRecursion, AllZip, IsDistinct}
use Rattle.std.proofs.lemmas.List.Folds.{list_any-append}
use Rattle.claim_board.specs.Lists.{is_in}

pub or_left : (a b : Bool) → a ≡ true → (a || b) ≡ true
or_left true b e = refl
or_left false b e = absurd (cc)

pub or_right : (a b : Bool) → b ≡ true → (a || b) ≡ true
or_right true b e = refl
or_right false b e = e

pub or_none : (a b : Bool) → (a || b) ≡ false → (a ≡ false) × (b ≡ false)
or_none true b e = absurd (cc)
or_none false b e = (refl, e)

module _ {X : Type 0} where
  pub any_more : (test : X → Bool) (xs ys : List X) → list_any test xs ≡ true → list_any test (xs ++ ys) ≡ true
  any_more test xs ys e = list_any-append test xs ys ∙ or_left (list_any test xs) (list_any test ys) e

  pub any_later : (test : X → Bool) (xs ys : List X) → list_any test ys ≡ true → list_any test (xs ++ ys) ≡ true
  any_later test xs ys e = list_any-append test xs ys ∙ or_right (list_any test xs) (list_any test ys) e

  pub all-append : (P : X → Type 0) (xs ys : List X) → AllByRecursion P xs → AllByRecursion P ys → AllByRecursion P (xs ++ ys)
  all-append P [] ys left right = right
  all-append P (x ∷ xs) ys left right = (left.0, all-append P xs ys left.1 right)

  pub all_weaker : (P Q : X → Type 0) (xs : List X) → ((x : X) → P x → Q x) → AllByRecursion P xs → AllByRecursion Q xs
  all_weaker P Q [] weaker all = tt
  all_weaker P Q (x ∷ xs) weaker all = (weaker x all.0, all_weaker P Q xs weaker all.1)

  pub drop-front : (xs ys : List X) → drop (length xs) (xs ++ ys) ≡ ys
  drop-front [] ys = refl
  drop-front (x ∷ xs) ys = drop-front xs ys

-- ---- two lists

module _ {X : Type 0} (R : X → X → Type 0) where
  pub all_zip_at : (xs ys : List X) → length ys ≡ length xs → ((k : ℕ) (d : X) → k < length xs → R (get_or xs k d) (get_or ys k d)) → AllZip R xs ys
  all_zip_at [] [] same at = tt
  all_zip_at [] (y ∷ ys) same at = absurd (omega arith)
  all_zip_at (x ∷ xs) [] same at = absurd (omega arith)
  all_zip_at (x ∷ xs) (y ∷ ys) same at = (at 0 x (omega arith), all_zip_at xs ys (omega arith) (λ k d below. at (suc k) d (omega arith)))

  pub all_zip_drop : (count : ℕ) (xs : List X) → AllZip R xs xs → AllZip R (drop count xs) (drop count xs)
  all_zip_drop zero xs all = all
  all_zip_drop (suc count) [] all = tt
  all_zip_drop (suc count) (x ∷ xs) all = all_zip_drop count xs all.1

  pub all_zip_itself : (xs : List X) → ((x : X) → R x x) → AllZip R xs xs
  all_zip_itself [] itself = tt
  all_zip_itself (x ∷ xs) itself = (itself x, all_zip_itself xs itself)

-- ---- answers

-- of two facts of an answer, a third
pub both_ok : {T E : Type 0} (result : Result T E) (P Q S : T → Type 0) → IfOk result P → IfOk result Q → ((value : T) → P value → Q value → S value) → IfOk result S
both_ok (Ok value) P Q S first second so = so value first second
both_ok (Err end) P Q S first second so = tt

-- ---- files

pub distinct_none : IsDistinct nat_eq []
unfolding IsDistinct
distinct_none = tt

pub distinct_one : (file : ℕ) → IsDistinct nat_eq (file ∷ [])
unfolding IsDistinct
distinct_one file = (tt, tt)

pub distinct-append : (xs ys : List ℕ) → IsDistinct nat_eq xs → IsDistinct nat_eq ys → AllByRecursion (λ file. is_in file xs ≡ false) ys → IsDistinct nat_eq (xs ++ ys)
unfolding IsDistinct
distinct-append [] ys left right none = right
distinct-append (x ∷ xs) ys left right none = (
  all-append (λ other. nat_eq x other ≡ false) xs ys left.0 (all_weaker (λ file. is_in file (x ∷ xs) ≡ false) (λ other. nat_eq x other ≡ false) ys (λ file e. (or_none (x == file) (is_in file xs) e).0) none),
  distinct-append xs ys left.1 right (all_weaker (λ file. is_in file (x ∷ xs) ≡ false) (λ file. is_in file xs ≡ false) ys (λ file e. (or_none (x == file) (is_in file xs) e).1) none),
)
