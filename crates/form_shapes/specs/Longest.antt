-- What it means that a form is the longest (this project).
use Rattle.std.specs.Prelude.{ℕ, ◌≡◌, ◌≤◌, List, Option, None, Some, slice_get}
use Rattle.std.specs.List.{AllByRecursion}
use Rattle.form_shapes.specs.declared.form.Form.{Form}
use Rattle.form_shapes.specs.declared.shape.Shape.{Shape}

-- one of these shapes has this form
abbrev pub HasForm : (Shape → Option Form) → List Shape → Form → Type 0
HasForm form shapes best = (k : ℕ) × (shape : Shape) × (slice_get shapes k ≡ Some shape) × (form shape ≡ Some best)

abbrev pub EndsNoLater : ℕ → Option Form → Type 0
EndsNoLater end None = Unit {0}
EndsNoLater end (Some form) = form.end ≤ end

-- the form of one of these shapes, and of none of them one that ends later; no form only where no shape has one
abbrev pub IsLongestForm : (Shape → Option Form) → List Shape → Option Form → Type 0
IsLongestForm form shapes None = AllByRecursion (λ shape. form shape ≡ None) shapes
IsLongestForm form shapes (Some best) = HasForm form shapes best × AllByRecursion (λ shape. EndsNoLater best.end (form shape)) shapes
