-- The items of a module: each place at which it names another (ECMA-262 16.2, 13.3.10; `require` as CommonJS has it).
use Rattle.std.specs.Prelude.{ℕ, ◌+◌, ◌-◌, List, Option, None, Some, option_map, if◌then◌else◌}
use Rattle.es_tokens.specs.declared.token.Token.{Token}
use Rattle.pack_util.specs.declared.number.Span.{Span}
use Rattle.form_shapes.specs.Source.{start_at, end_at, text_at}
use Rattle.form_shapes.specs.declared.form.Form.{Form}
use Rattle.form_shapes.specs.declared.shape.Shape.{Shape}
use Rattle.form_shapes.specs.declared.shape.Shape.TheVariants as shape
use Rattle.form_shapes.specs.declared.standing.Standing.{Standing}
use Rattle.form_shapes.specs.declared.standing.Standing.TheVariants.{Declaration, ImportCall, RequireCall}
use Rattle.graph_types.specs.declared.item.Item.{Item}
use Rattle.graph_types.specs.declared.item.ItemKind.{ItemKind}
use Rattle.graph_types.specs.declared.item.ItemKind.TheVariants as kind
use Rattle.form_shapes.specs.Text.{unquoted}
use Rattle.magic_comments.specs.declared.magic.Magic.{Magic}

-- the kind of a declaration's item, where it names a module
abbrev pub declared_kind : Shape → Option ItemKind
declared_kind shape.BareImport = Some kind.Import
declared_kind shape.DefaultImport = Some kind.Import
declared_kind shape.SpaceImport = Some kind.Import
declared_kind shape.NamesImport = Some kind.Import
declared_kind shape.DefaultSpaceImport = Some kind.Import
declared_kind shape.DefaultNamesImport = Some kind.Import
declared_kind shape.StarExport = Some kind.ExportFrom
declared_kind shape.SpaceExport = Some kind.ExportFrom
declared_kind shape.NamesFromExport = Some kind.ExportFrom
declared_kind _ = None

-- from the first byte of a token to the last before another
abbrev pub span_of : List Token → ℕ → ℕ → Span
span_of tokens at end = record { start = start_at tokens at; end = end_at tokens (end - 1) }

-- the item whose request is this token
abbrev pub item_of : List ℕ → List Token → ItemKind → Span → ℕ → Option (List ℕ) → Item
item_of text tokens kind span request chunk_name = record {
  kind = kind;
  span = span;
  at = start_at tokens request;
  request = unquoted (text_at text tokens request);
  chunk_name = chunk_name;
  target = None;
}

-- a declaration's request is the last of its parts
abbrev pub declared_item : List ℕ → List Token → ℕ → Form → Option Item
declared_item text tokens at form =
    option_map (λ kind. item_of text tokens kind (span_of tokens at form.end) (form.parts - 1) None) (declared_kind form.shape)

-- a call's request stands behind its bracket; an eager import has no chunk of its own, so no name of one
abbrev pub import_item : List ℕ → List Token → ℕ → Magic → Form → Option Item
import_item text tokens at magic form =
    if magic.ignored then None
    else Some (item_of text tokens (if magic.eager then kind.Eager else kind.Lazy) (span_of tokens at form.end) (at + 2)
    (if magic.eager then None else magic.name))

-- the item of what stands at a token, where it names a module
unfoldable pub item_by : List ℕ → List Token → ℕ → Magic → Standing → Option Item
item_by text tokens at magic (Declaration form) = declared_item text tokens at form
item_by text tokens at magic (ImportCall form) = import_item text tokens at magic form
item_by text tokens at magic (RequireCall form) =
    Some (item_of text tokens kind.Require (span_of tokens at form.end) (at + 2) None)
item_by text tokens at magic _ = None
