-- The form at a token: the row of the table whose reading ends last (this project).
use Rattle.std.specs.Prelude.{ℕ, Bool, not, ◌&&◌, ◌||◌, ◌+◌, nat_lt, List, [], ◌∷◌, Option, None, Some, option_map, option_and_then, if◌then◌else◌}
use Rattle.std.specs.List.{list_any}
use Rattle.es_tokens.specs.declared.token.Token.{Token}
use Rattle.form_shapes.specs.Source.{is_at, inside, mate_at, is_bracket}
use Rattle.form_shapes.specs.Names.{behind_names}
use Rattle.form_shapes.specs.Shapes.{parts_of, is_call, takes_attributes}
use Rattle.form_shapes.specs.Variables.{behind_variables}
use Rattle.form_shapes.specs.declared.form.Form.{Form}
use Rattle.form_shapes.specs.declared.part.Part.{Part}
use Rattle.form_shapes.specs.declared.part.Part.TheVariants.{One, Named, Variables}
use Rattle.form_shapes.specs.declared.shape.Shape.{Shape}
use Rattle.form_shapes.specs.declared.sign.Sign.{Sign}
use Rattle.form_shapes.specs.declared.sign.Sign.TheVariants as sign

-- behind one token with a sign
abbrev pub behind_one : List ℕ → List Token → Sign → ℕ → Option ℕ
behind_one text tokens one at = if is_at text tokens one at then Some (at + 1) else None

-- behind a part that begins at a token
unfoldable pub behind : List ℕ → List Token → Part → ℕ → Option ℕ
behind text tokens (One one) at = behind_one text tokens one at
behind text tokens (Named declared) at = behind_names text tokens declared at
behind text tokens Variables at = behind_variables text tokens at

-- behind parts, one after another
abbrev pub behind_all : List ℕ → List Token → List Part → ℕ → Option ℕ
behind_all text tokens [] at = Some at
behind_all text tokens (part ∷ parts) at = option_and_then (behind_all text tokens parts) (behind text tokens part at)

-- behind `with` and braces without a bracket in them, where they stand
unfoldable pub behind_attributes : List ℕ → List Token → ℕ → ℕ
behind_attributes text tokens at =
    if is_at text tokens sign.With at && (is_at text tokens sign.Brace (at + 1) && not (list_any (is_bracket text) (inside tokens (at + 1))))
    then mate_at tokens (at + 1) + 1 else at

abbrev pub end_of : List ℕ → List Token → Shape → ℕ → ℕ
end_of text tokens shape parts = if takes_attributes shape then behind_attributes text tokens parts else parts

abbrev pub form_of : List ℕ → List Token → Shape → ℕ → Form
form_of text tokens shape parts = record { shape = shape; parts = parts; end = end_of text tokens shape parts }

-- the form of a shape whose parts begin at a token
unfoldable pub form_at : List ℕ → List Token → ℕ → Bool → Shape → Option Form
form_at text tokens at outside shape =
    if outside || is_call shape then option_map (form_of text tokens shape) (behind_all text tokens (parts_of shape) at) else None

-- the one that ends last, and of two that end at once the first
abbrev pub longer : Option Form → Option Form → Option Form
longer None other = other
longer (Some best) None = Some best
longer (Some best) (Some other) = if nat_lt best.end other.end then Some other else Some best

-- the best so far, or a longer one of these shapes
abbrev pub longest_from : (Shape → Option Form) → Option Form → List Shape → Option Form
longest_from form best [] = best
longest_from form best (shape ∷ shapes) = longest_from form (longer best (form shape)) shapes

-- the longest form of these shapes whose parts begin at a token
abbrev pub longest : List ℕ → List Token → ℕ → Bool → List Shape → Option Form
longest text tokens at outside shapes = longest_from (form_at text tokens at outside) None shapes
