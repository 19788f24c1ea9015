-- What stands at a token: a form or a part of one, or what is told of its want (this project).
use Rattle.std.specs.Prelude.{ℕ, suc, zero, Bool, false, not, ◌&&◌, ◌||◌, ◌+◌, List, Option, None, Some, if◌then◌else◌}
use Rattle.es_tokens.specs.declared.token.Token.{Token}
use Rattle.form_shapes.specs.Source.{is_at, is_outside}
use Rattle.form_shapes.specs.Shapes.{import_shapes, export_shapes, require_shapes, is_call}
use Rattle.form_shapes.specs.Forms.{longest}
use Rattle.form_shapes.specs.declared.form.Form.{Form}
use Rattle.form_shapes.specs.declared.sign.Sign.{Sign}
use Rattle.form_shapes.specs.declared.sign.Sign.TheVariants as sign
use Rattle.form_shapes.specs.declared.standing.Standing.{Standing}
use Rattle.form_shapes.specs.declared.standing.Standing.TheVariants.{Nothing, Declaration, ImportCall, RequireCall, BadForm, OddImport, OddRequire}

-- the token before this one has the sign
abbrev pub is_behind : List ℕ → List Token → Sign → ℕ → Bool
is_behind text tokens sign zero = false
is_behind text tokens sign (suc before) = is_at text tokens sign before

abbrev pub form_by : Form → Standing
form_by form = if is_call form.shape then ImportCall form else Declaration form

-- by the longest form, whether `(` follows, and whether the keyword may not stand alone
abbrev pub import_by : Option Form → Bool → Bool → Standing
import_by (Some form) opens alone = form_by form
import_by None opens alone = if opens then OddImport else (if alone then BadForm else Nothing)

abbrev pub export_by : Option Form → Bool → Standing
export_by (Some form) alone = Declaration form
export_by None alone = if alone then BadForm else Nothing

abbrev pub require_by : Option Form → Bool → Standing
require_by (Some form) odd = RequireCall form
require_by None odd = if odd then OddRequire else Nothing

unfoldable pub import_at : List ℕ → List Token → ℕ → Standing
import_at text tokens at =
    import_by (longest text tokens (at + 1) (is_outside tokens at) import_shapes)
    (is_at text tokens sign.Open (at + 1)) (is_outside tokens at || is_at text tokens sign.Period (at + 1))

unfoldable pub export_at : List ℕ → List Token → ℕ → Standing
export_at text tokens at =
    export_by (longest text tokens (at + 1) (is_outside tokens at) export_shapes) (is_outside tokens at)

unfoldable pub require_at : List ℕ → List Token → ℕ → Standing
require_at text tokens at =
    require_by (longest text tokens (at + 1) (is_outside tokens at) require_shapes)
    (is_at text tokens sign.Open (at + 1) && not (is_behind text tokens sign.Function at))

-- what stands at a token by its keyword
abbrev pub keyword_at : List ℕ → List Token → ℕ → Standing
keyword_at text tokens at =
    if is_at text tokens sign.Import at then import_at text tokens at
    else (if is_at text tokens sign.Export at then export_at text tokens at
    else (if is_at text tokens sign.Require at then require_at text tokens at else Nothing))

-- behind a `.` or `?.` nothing stands
unfoldable pub standing_at : List ℕ → List Token → ℕ → Standing
standing_at text tokens at = if is_behind text tokens sign.Member at then Nothing else keyword_at text tokens at
