-- The longest form of some shapes is one of them, and none ends later.
use Rattle.std.proofs.Common.{◌≡◌, ℕ, suc, zero, ◌+◌, ◌≤◌, true, false, List, [], ◌∷◌, Option, None, Some, refl, sym, ◌∙◌, arith, inl, inr, ◌⊎◌, cond}
use Rattle.std.specs.Prelude.{nat_lt, slice_get}
use Rattle.std.specs.List.{AllByRecursion}
use borrow.Author.Tests.{tests}
use Rattle.form_shapes.specs.Forms.{longer, longest_from}
use Rattle.form_shapes.specs.Longest.{EndsNoLater, IsLongestForm}
use Rattle.form_shapes.specs.declared.form.Form.{Form}
use Rattle.form_shapes.specs.declared.shape.Shape.{Shape}

-- how far a form reaches, and no form less than any
abbrev reach : Option Form → ℕ
reach None = 0
reach (Some form) = form.end + 1

reach_best : (best other : Option Form) → reach best ≤ reach (longer best other)
reach_best None other = omega arith
reach_best (Some best) None = omega arith
reach_best (Some best) (Some other) = grind (arith, tests)

reach_other : (best other : Option Form) → reach other ≤ reach (longer best other)
reach_other None other = omega arith
reach_other (Some best) None = omega arith
reach_other (Some best) (Some other) = grind (arith, tests)

longer_cases : (best other : Option Form) → (longer best other ≡ best) ⊎ (longer best other ≡ other)
longer_cases None other = inr refl
longer_cases (Some best) None = inl refl
longer_cases (Some best) (Some other) =
    elim (nat_lt best.end other.end) as (λ b. (cond b (Some other) (Some best) ≡ Some best) ⊎ (cond b (Some other) (Some best) ≡ Some other))
    [ true ↦ inr refl | false ↦ inl refl ]

module _ (form : Shape → Option Form) where
  kept : (best : Option Form) (shapes : List Shape) → reach best ≤ reach (longest_from form best shapes)
  kept best [] = omega arith
  kept best (shape ∷ shapes) =
      let one : reach best ≤ reach (longer best (form shape)) = reach_best best (form shape) in
      let more : reach (longer best (form shape)) ≤ reach (longest_from form (longer best (form shape)) shapes) = kept (longer best (form shape)) shapes in
      omega (arith, one, more)

  above : (best : Option Form) (shapes : List Shape) → AllByRecursion (λ shape. reach (form shape) ≤ reach (longest_from form best shapes)) shapes
  above best [] = tt
  above best (shape ∷ shapes) = (
    let one : reach (form shape) ≤ reach (longer best (form shape)) = reach_other best (form shape) in
        let more : reach (longer best (form shape)) ≤ reach (longest_from form (longer best (form shape)) shapes) = kept (longer best (form shape)) shapes in
        omega (arith, one, more),
    above (longer best (form shape)) shapes,
  )

  IsFrom : Option Form → List Shape → Option Form → Type 0
  IsFrom best shapes result = (result ≡ best) ⊎ ((k : ℕ) × (shape : Shape) × (slice_get shapes k ≡ Some shape) × (form shape ≡ result))

  came_by : (best : Option Form) (shape : Shape) (shapes : List Shape) (result : Option Form)
      → (longer best (form shape) ≡ best) ⊎ (longer best (form shape) ≡ form shape)
      → IsFrom (longer best (form shape)) shapes result → IsFrom best (shape ∷ shapes) result
  unfolding IsFrom
  came_by best shape shapes result (inl same) (inl e) = inl (e ∙ same)
  came_by best shape shapes result (inr other) (inl e) = inr (zero, shape, refl, sym other ∙ sym e)
  came_by best shape shapes result how (inr (k, found, there, gives)) = inr (suc k, found, there, gives)

  came : (best : Option Form) (shapes : List Shape) → IsFrom best shapes (longest_from form best shapes)
  unfolding IsFrom
  came best [] = inl refl
  came best (shape ∷ shapes) =
      came_by best shape shapes _ (longer_cases best (form shape)) (came (longer best (form shape)) shapes)

  none_ends : (shapes : List Shape) → AllByRecursion (λ shape. reach (form shape) ≤ 0) shapes → AllByRecursion (λ shape. form shape ≡ None) shapes
  none_ends [] all = tt
  none_ends (shape ∷ shapes) all = (is_none (form shape) all.0, none_ends shapes all.1)
    where
      is_none : (found : Option Form) → reach found ≤ 0 → found ≡ None
      is_none None h = refl
      is_none (Some found) h = absurd (omega arith)

  ends : (end : ℕ) (found : Option Form) → reach found ≤ end + 1 → EndsNoLater end found
  ends end None h = tt
  ends end (Some found) h = omega arith

  all_end : (end : ℕ) (shapes : List Shape) → AllByRecursion (λ shape. reach (form shape) ≤ end + 1) shapes
      → AllByRecursion (λ shape. EndsNoLater end (form shape)) shapes
  all_end end [] all = tt
  all_end end (shape ∷ shapes) all = (ends end (form shape) all.0, all_end end shapes all.1)

  told : (shapes : List Shape) (result : Option Form)
      → AllByRecursion (λ shape. reach (form shape) ≤ reach result) shapes → IsFrom None shapes result → IsLongestForm form shapes result
  unfolding IsFrom
  told shapes None all from = none_ends shapes all
  told shapes (Some best) all (inl e) = absurd (cc)
  told shapes (Some best) all (inr there) = (there, all_end best.end shapes all)

  pub is_longest : (shapes : List Shape) → IsLongestForm form shapes (longest_from form None shapes)
  is_longest shapes = told shapes (longest_from form None shapes) (above None shapes) (came None shapes)
