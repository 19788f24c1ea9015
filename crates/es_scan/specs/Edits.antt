-- What the emitted text has in the place of a module's forms (this project).
use Rattle.std.specs.Prelude.{ℕ, Bool, true, false, ◌+◌, List, [], ◌∷◌, codes, if◌then◌else◌}
use Rattle.es_tokens.specs.declared.token.Token.{Token}
use Rattle.pack_util.specs.declared.number.Span.{Span}
use Rattle.form_shapes.specs.Source.{end_at}
use Rattle.form_shapes.specs.declared.form.Form.{Form}
use Rattle.form_shapes.specs.declared.shape.Shape.{Shape}
use Rattle.form_shapes.specs.declared.shape.Shape.TheVariants as shape
use Rattle.form_shapes.specs.declared.standing.Standing.{Standing}
use Rattle.form_shapes.specs.declared.standing.Standing.TheVariants.{Declaration, ImportCall, RequireCall}
use Rattle.graph_types.specs.declared.edit.Edit.{Edit}
use Rattle.graph_types.specs.declared.edit.EditText.TheVariants.{Fixed, Load}
use Rattle.magic_comments.specs.Comments.{begins, line_length}
use Rattle.es_scan.specs.Default.{default_at}
use Rattle.es_scan.specs.Items.{span_of}
use Rattle.es_scan.specs.declared.default.Default.{Default}
use Rattle.es_scan.specs.declared.default.Default.TheVariants.{Expression, Named, Unnamed}
use Rattle.magic_comments.specs.declared.magic.Magic.{Magic}

abbrev pub fixed : Span → List ℕ → Edit
fixed span put = record { span = span; put = Fixed put }

-- the whole declaration goes out of the text; else only its first words do
abbrev pub is_removed : Shape → Bool
is_removed shape.BareImport = true
is_removed shape.DefaultImport = true
is_removed shape.SpaceImport = true
is_removed shape.NamesImport = true
is_removed shape.DefaultSpaceImport = true
is_removed shape.DefaultNamesImport = true
is_removed shape.StarExport = true
is_removed shape.SpaceExport = true
is_removed shape.NamesFromExport = true
is_removed shape.NamesExport = true
is_removed _ = false

-- the place behind a token
abbrev pub place_behind : List Token → ℕ → Span
place_behind tokens at = record { start = end_at tokens at; end = end_at tokens at }

-- an expression gets a name, and so does a declaration that has none
abbrev pub default_edits_by : List Token → ℕ → Default → List Edit
default_edits_by tokens at Expression = fixed (span_of tokens at (at + 2)) (codes "const __cp_default=") ∷ []
default_edits_by tokens at (Named name) = fixed (span_of tokens at (at + 2)) (codes "") ∷ []
default_edits_by tokens at (Unnamed last) =
    fixed (span_of tokens at (at + 2)) (codes "") ∷ fixed (place_behind tokens last) (codes " __cp_default") ∷ []

abbrev pub default_edits : List ℕ → List Token → ℕ → List Edit
default_edits text tokens at = default_edits_by tokens at (default_at text tokens (at + 2))

abbrev pub is_default : Shape → Bool
is_default shape.DefaultExport = true
is_default _ = false

abbrev pub declared_edits : List ℕ → List Token → ℕ → Form → List Edit
declared_edits text tokens at form =
    if is_removed form.shape then fixed (span_of tokens at form.end) (codes ";") ∷ []
    else (if is_default form.shape then default_edits text tokens at
    else fixed (span_of tokens at (at + 1)) (codes "") ∷ [])

-- a call becomes what loads the module that the item of this number names
abbrev pub call_edit : List Token → ℕ → ℕ → Form → Edit
call_edit tokens item at form = record { span = span_of tokens at form.end; put = Load item }

unfoldable pub edits_by : List ℕ → List Token → ℕ → ℕ → Magic → Standing → List Edit
edits_by text tokens item at magic (Declaration form) = declared_edits text tokens at form
edits_by text tokens item at magic (ImportCall form) = if magic.ignored then [] else call_edit tokens item at form ∷ []
edits_by text tokens item at magic (RequireCall form) = call_edit tokens item at form ∷ []
edits_by text tokens item at magic _ = []

-- a `#!` at the start of a text becomes nothing, up to the line's end (ECMA-262 12.5)
unfoldable pub hashbang_edits : List ℕ → List Edit
hashbang_edits text =
    if begins text (codes "#!") then fixed (record { start = 0; end = line_length text }) (codes "") ∷ [] else []
