-- Forms within which no other begins (this project).
use Rattle.std.specs.Prelude.{ℕ, ◌≡◌, ◌<◌, ◌≤◌, ◌||◌, Bool, true, false, List, Option, None, Some, length}
use Rattle.es_tokens.specs.declared.token.Token.{Token}
use Rattle.form_shapes.specs.Shapes.{is_call, takes_attributes}
use Rattle.form_shapes.specs.Standing.{standing_at}
use Rattle.form_shapes.specs.declared.form.Form.{Form}
use Rattle.form_shapes.specs.declared.shape.Shape.{Shape}
use Rattle.form_shapes.specs.declared.shape.Shape.TheVariants as shape
use Rattle.form_shapes.specs.declared.sign.Sign.{Sign}
use Rattle.form_shapes.specs.declared.sign.Sign.TheVariants as sign
use Rattle.form_shapes.specs.declared.standing.Standing.{Standing}
use Rattle.form_shapes.specs.declared.standing.Standing.TheVariants.{Declaration, ImportCall, RequireCall}

-- the form that stands there, where one does
abbrev pub form_in : Standing → Option Form
form_in (Declaration form) = Some form
form_in (ImportCall form) = Some form
form_in (RequireCall form) = Some form
form_in _ = None

-- the form that begins at a token
abbrev pub begun_at : List ℕ → List Token → ℕ → Option Form
begun_at text tokens at = form_in (standing_at text tokens at)

-- all forms but an export with its declaration, which may have calls in it
abbrev pub stands_alone : Shape → Bool
stands_alone shape.NamesExport = true
stands_alone shape.DefaultExport = true
stands_alone shape = takes_attributes shape || is_call shape

abbrev pub is_alone : Standing → Bool
is_alone (Declaration form) = stands_alone form.shape
is_alone (ImportCall form) = true
is_alone (RequireCall form) = true
is_alone _ = false

-- a token with one of these signs isn't the first of a form
abbrev pub begins_none : Sign → Bool
begins_none sign.Name = false
begins_none sign.IdName = false
begins_none sign.Import = false
begins_none sign.Export = false
begins_none sign.Require = false
begins_none _ = true

-- from a number on, up to another, there are tokens, and no form begins at any of them
pub record AreWithoutForms (text : List ℕ) (tokens : List Token) (from end : ℕ) : Type 0 where
  pub order : from ≤ end
  pub within : end ≤ length tokens
  pub none : (at : ℕ) → from ≤ at → at < end → begun_at text tokens at ≡ None
