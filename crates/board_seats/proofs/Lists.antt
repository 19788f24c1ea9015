-- Lists read by `get_elem?`.
use Rattle.std.proofs.Common.{◌≡◌, ◌⊎◌, ℕ, zero, suc, ◌<◌, List, [], ◌∷◌, ◌++◌, length, replicate, get_or, refl, sym, ap, inl, inr, ⊎_elim, arith}
use mathlib.Core.Option.{some, some-injective, some-ne-none}
use lib.ListN.{get_elem?}

module _ {A : Type 0} where
  pub below_length : (l : List A) (i : ℕ) (a : A) → get_elem? l i ≡ some a → i < length l
  below_length [] i a e = absurd (some-ne-none a (sym e))
  below_length (x ∷ xs) zero a e = omega arith
  below_length (x ∷ xs) (suc i) a e = let h : i < length xs = below_length xs i a e in omega arith

  pub at_end : (l : List A) (a b : A) (j : ℕ) → get_elem? (l ++ a ∷ []) j ≡ some b → (get_elem? l j ≡ some b) ⊎ ((j ≡ length l) × (a ≡ b))
  at_end [] a b zero e = inr (refl, some-injective a b e)
  at_end [] a b (suc j) e = absurd (some-ne-none b (sym e))
  at_end (x ∷ xs) a b zero e = inl e
  at_end (x ∷ xs) a b (suc j) e = ⊎_elim (λ t. inl t) (λ (t : (j ≡ length xs) × (a ≡ b)). inr (ap suc t.0, t.1)) (at_end xs a b j e)

  pub at_replicate : (n k : ℕ) (a : A) → k < n → get_elem? (replicate n a) k ≡ some a
  at_replicate zero k a h = absurd (omega arith)
  at_replicate (suc n) zero a h = refl
  at_replicate (suc n) (suc k) a h = at_replicate n k a (omega arith)

  pub get_or_at : (l : List A) (i : ℕ) (a d : A) → get_elem? l i ≡ some a → get_or l i d ≡ a
  get_or_at [] i a d e = absurd (some-ne-none a (sym e))
  get_or_at (x ∷ xs) zero a d e = some-injective x a e
  get_or_at (x ∷ xs) (suc i) a d e = get_or_at xs i a d e

  -- two lists that agree at each place are one
  pub same_places : (l m : List A) → length l ≡ length m → ((i : ℕ) (a : A) → get_elem? m i ≡ some a → get_elem? l i ≡ some a) → l ≡ m
  same_places [] [] n e = refl
  same_places [] (y ∷ ys) n e = absurd (omega arith)
  same_places (x ∷ xs) [] n e = absurd (omega arith)
  same_places (x ∷ xs) (y ∷ ys) n e =
      let h : x ≡ y = some-injective x y (e 0 y refl) in
      let t : xs ≡ ys = same_places xs ys (omega arith) (λ i a q. e (suc i) a q) in λ k. h k ∷ t k
