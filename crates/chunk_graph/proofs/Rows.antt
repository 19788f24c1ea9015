-- Rows of truth values.
use Rattle.std.proofs.Common.{◌≡◌, Bool, true, false, ◌||◌, ◌↔◌, List, [], ◌∷◌, length, replicate, refl, sym, ap}
use Rattle.std.specs.Simd.Lanes.{zip2}
use Rattle.std.specs.Cmp.{booleans_Decides}
use Rattle.std.proofs.lemmas.Slice.Eq.{slice_eq-Decides}
use Rattle.chunk_graph.specs.Moves.{same_row}

-- a union with a row that has no true place
pub union-blank : (xs : List Bool) → zip2 (λ x y. x || y) (replicate (length xs) false) xs ≡ xs
union-blank [] = refl
union-blank (x ∷ xs) = ap (λ ys. x ∷ ys) (union-blank xs)

pub from_same_row : (xs ys : List Bool) → same_row xs ys ≡ true → xs ≡ ys
from_same_row xs ys = (slice_eq-Decides booleans_Decides xs ys (same_row xs ys) refl).0

pub same_row-refl : (xs ys : List Bool) → xs ≡ ys → same_row xs ys ≡ true
same_row-refl xs ys = (slice_eq-Decides booleans_Decides xs ys (same_row xs ys) refl).1

same_truth : (b c : Bool) → (b ≡ true → c ≡ true) → (c ≡ true → b ≡ true) → b ≡ c
same_truth true c f g = sym (f refl)
same_truth false true f g = g refl
same_truth false false f g = refl

-- a test that is true exactly where the rows are equal
pub row_test : (b : Bool) (xs ys : List Bool) → ((b ≡ true) ↔ (xs ≡ ys)) → b ≡ same_row xs ys
row_test b xs ys h = same_truth b (same_row xs ys) (λ e. same_row-refl xs ys (h.0 e)) (λ e. h.1 (from_same_row xs ys e))
