-- The scan of a text: what each token gives, one after another (this project; the forms are those of ECMA-262 16.2 and 13.3.10).
use Rattle.std.specs.Prelude.{ℕ, suc, zero, Bool, false, ◌||◌, List, [], ◌++◌, map, length, option_to_list}
use Rattle.es_tokens.specs.declared.token.Token.{Token}
use Rattle.form_shapes.specs.Source.{start_at}
use Rattle.form_shapes.specs.Standing.{standing_at}
use Rattle.graph_types.specs.declared.binding.Bind.{Bind}
use Rattle.graph_types.specs.declared.binding.Export.{Export}
use Rattle.graph_types.specs.declared.binding.Star.{Star}
use Rattle.graph_types.specs.declared.edit.Edit.{Edit}
use Rattle.graph_types.specs.declared.item.Item.{Item}
use Rattle.graph_types.specs.declared.note.Note.{Note}
use Rattle.es_scan.specs.Binds.{binds_by}
use Rattle.es_scan.specs.Edits.{edits_by, hashbang_edits}
use Rattle.es_scan.specs.Exports.{exports_by}
use Rattle.es_scan.specs.Flaws.{flaws_by, repeats, fault_of_flaw}
use Rattle.es_scan.specs.Items.{item_by}
use Rattle.magic_comments.specs.Magic.{magic_by}
use Rattle.es_scan.specs.Notes.{notes_by}
use Rattle.es_scan.specs.Stars.{stars_by, is_declaration}
use Rattle.es_scan.specs.declared.flaws.Flaw.{Flaw}
use Rattle.magic_comments.specs.declared.magic.Magic.{Magic}
use Rattle.es_scan.specs.declared.scanned.Scan.{Scan}

-- what the tokens before a number give, one after another
abbrev pub upto : {X : Type 0} → (ℕ → List X) → ℕ → List X
upto given zero = []
upto given (suc at) = upto given at ++ given at

abbrev pub any_upto : (ℕ → Bool) → ℕ → Bool
any_upto test zero = false
any_upto test (suc at) = any_upto test at || test at

abbrev pub magic_at : List ℕ → List Token → ℕ → Magic
magic_at text tokens at = magic_by text tokens at (standing_at text tokens at)

unfoldable pub items_at : List ℕ → List Token → ℕ → List Item
items_at text tokens at = option_to_list (item_by text tokens at (magic_at text tokens at) (standing_at text tokens at))

-- the number of the item that a token may give: how many items stand before it
unfoldable pub item_number : List ℕ → List Token → ℕ → ℕ
item_number text tokens at = length (upto (items_at text tokens) at)

unfoldable pub binds_at : List ℕ → List Token → ℕ → List Bind
binds_at text tokens at = binds_by text tokens (item_number text tokens at) at (standing_at text tokens at)

unfoldable pub exports_at : List ℕ → List Token → ℕ → List Export
exports_at text tokens at = exports_by text tokens (item_number text tokens at) at (standing_at text tokens at)

unfoldable pub stars_at : List ℕ → List Token → ℕ → List Star
stars_at text tokens at = stars_by (item_number text tokens at) (standing_at text tokens at)

unfoldable pub edits_at : List ℕ → List Token → ℕ → List Edit
edits_at text tokens at = edits_by text tokens (item_number text tokens at) at (magic_at text tokens at) (standing_at text tokens at)

unfoldable pub notes_at : List ℕ → List Token → ℕ → List Note
notes_at text tokens at = notes_by tokens at (magic_at text tokens at) (standing_at text tokens at)

abbrev pub export_names : List Export → List (List ℕ)
export_names exports = map (λ export. export.name) exports

abbrev pub local_names : List Bind → List (List ℕ)
local_names binds = map (λ bind. bind.local) binds

-- exported names, and then local ones, that stand among those before
abbrev pub repeats_at : List ℕ → List Token → ℕ → List Flaw
repeats_at text tokens at =
    repeats (start_at tokens at) (export_names (upto (exports_at text tokens) at)) (export_names (exports_at text tokens at))
    ++ repeats (start_at tokens at) (local_names (upto (binds_at text tokens) at)) (local_names (binds_at text tokens at))

unfoldable pub flaws_at : List ℕ → List Token → ℕ → List Flaw
flaws_at text tokens at =
    flaws_by text tokens at (magic_at text tokens at) (standing_at text tokens at) ++ repeats_at text tokens at

unfoldable pub declares_at : List ℕ → List Token → ℕ → Bool
declares_at text tokens at = is_declaration (standing_at text tokens at)

-- the scan of a text at a path, with these tokens
unfoldable pub scan_of : List ℕ → List ℕ → List Token → Scan
scan_of path text tokens = record {
  items = upto (items_at text tokens) (length tokens);
  binds = upto (binds_at text tokens) (length tokens);
  exports = upto (exports_at text tokens) (length tokens);
  stars = upto (stars_at text tokens) (length tokens);
  edits = hashbang_edits text ++ upto (edits_at text tokens) (length tokens);
  notes = upto (notes_at text tokens) (length tokens);
  faults = map (fault_of_flaw path text) (upto (flaws_at text tokens) (length tokens));
  es = any_upto (declares_at text tokens) (length tokens);
}
