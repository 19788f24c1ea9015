-- Tests of a byte, and places in the brackets.
use Rattle.std.proofs.Common.{◌≡◌, ◌==◌, ◌||◌, ◌&&◌, ℕ, suc, ◌+◌, Bool, true, false, cond, ◌⊎◌, inl, inr, refl, subst, sym, arith}
use Rattle.std.proofs.lemmas.Bool.{eqb-true}
use Rattle.json_order.specs.Grammar.{IsSpace}
use Rattle.json_order.specs.inner.Steps.{is_space}

-- what holds of a choice
pub by_test : {A : Type 0} (P : A → Type 0) (b : Bool) (x y : A) → (b ≡ true → P x) → (b ≡ false → P y) → P (cond b x y)
by_test P true x y f g = f refl
by_test P false x y f g = g refl

pub tested : {A : Type 0} (P : A → Type 0) (b : Bool) (x y : A) → P (cond b x y) → ((b ≡ true) × P x) ⊎ ((b ≡ false) × P y)
tested P true x y h = inl (refl, h)
tested P false x y h = inr (refl, h)

-- what holds of each space
pub at_space : (P : ℕ → Type 0) → P 32 → P 9 → P 10 → P 13 → (b : ℕ) → IsSpace b → P b
at_space P p q r s b (inl e) = subst P (sym e) p
at_space P p q r s b (inr (inl e)) = subst P (sym e) q
at_space P p q r s b (inr (inr (inl e))) = subst P (sym e) r
at_space P p q r s b (inr (inr (inr e))) = subst P (sym e) s

pub same_depth : (P : ℕ → Type 0) (d deep k : ℕ) → d + k ≡ deep + k → P d → P deep
same_depth P d deep k e h = let same : d ≡ deep = omega arith in subst P same h

pub deeper : (P : ℕ → Type 0) (d deep k : ℕ) → d + k ≡ deep + suc k → P d → P (suc deep)
deeper P d deep k e h = let same : d ≡ suc deep = omega arith in subst P same h

pub less_deep : (P : ℕ → Type 0) (d deep k : ℕ) → d + suc k ≡ deep + k → P (suc d) → P deep
less_deep P d deep k e h = let same : suc d ≡ deep = omega arith in subst P same h

pub either : (x y : Bool) → (x || y) ≡ true → (x ≡ true) ⊎ (y ≡ true)
either true y e = inl refl
either false y e = inr e

pub both : (x y : Bool) → (x && y) ≡ true → (x ≡ true) × (y ≡ true)
both true y e = (refl, e)
both false y e = cc

pub space_from_test : (b : ℕ) → is_space b ≡ true → IsSpace b
space_from_test b e = elim (either (b == 32) _ e) [
  | inl g ↦ inl (eqb-true b 32 g)
  | inr g ↦ elim (either (b == 9) _ g) [
    | inl k ↦ inr (inl (eqb-true b 9 k))
    | inr k ↦ elim (either (b == 10) _ k) [
      | inl m ↦ inr (inr (inl (eqb-true b 10 m)))
      | inr m ↦ inr (inr (inr (eqb-true b 13 m)))
    ]
  ]
]
