-- Partial maps from files, kept as a list with a place for each file.
use Rattle.std.proofs.Common.{◌≡◌, ◌≢◌, ℕ, zero, suc, List, [], ◌∷◌, Some, None, ap, refl}
use Rattle.std.specs.Prelude.{slice_get, slice_set, replicate}
use Rattle.std.specs.Option.{option_flatten}

module _ {X : Type 0} where
  -- a place that has something has what is written to it
  pub slice_get-set_same : (xs : List X) (k : ℕ) (v w : X) → slice_get xs k ≡ Some w → slice_get (slice_set xs k v) k ≡ Some v
  slice_get-set_same [] k v w e = cc
  slice_get-set_same (x ∷ xs) zero v w e = refl
  slice_get-set_same (x ∷ xs) (suc k) v w e = slice_get-set_same xs k v w e

  pub slice_get-set_other : (xs : List X) (i k : ℕ) (v : X) → k ≢ i → slice_get (slice_set xs i v) k ≡ slice_get xs k
  slice_get-set_other [] i k v n = refl
  slice_get-set_other (x ∷ xs) zero zero v n = absurd (n refl)
  slice_get-set_other (x ∷ xs) zero (suc k) v n = refl
  slice_get-set_other (x ∷ xs) (suc i) zero v n = refl
  slice_get-set_other (x ∷ xs) (suc i) (suc k) v n = slice_get-set_other xs i k v (λ e. n (ap suc e))

  -- the map without a value has none anywhere
  pub value-nothing : (n k : ℕ) → option_flatten {T = X} (slice_get (replicate n None) k) ≡ None
  value-nothing zero k = refl
  value-nothing (suc n) zero = refl
  value-nothing (suc n) (suc k) = value-nothing n k
