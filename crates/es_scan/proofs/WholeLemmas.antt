-- The numbers of a scan name items of their kinds, and its items lie in the text.
use Rattle.std.proofs.Common.{◌≡◌, ◌<◌, ◌≤◌, ◌+◌, ◌-◌, ℕ, suc, zero, Bool, true, false, cond, List, [], ◌∷◌, ◌++◌, map, length, refl, ap, ◌∙◌, arith, Option, None, Some}
use Rattle.std.specs.Prelude.{option_to_list, option_map, codes}
use Rattle.std.specs.List.{AllByRecursion}
use Rattle.es_tokens.specs.Spans.{AreInOrder, EachBehind}
use Rattle.es_tokens.specs.declared.token.Token.{Token}
use Rattle.pack_util.specs.declared.number.TheConstants.{MAX_TEXT}
use Rattle.form_shapes.specs.Names.{specifiers}
use Rattle.form_shapes.specs.Source.{start_at}
use Rattle.form_shapes.specs.Standing.{standing_at}
use Rattle.form_shapes.specs.Variables.{declarators}
use Rattle.form_shapes.specs.declared.form.Form.{Form}
use Rattle.form_shapes.specs.declared.shape.Shape.{Shape}
use Rattle.form_shapes.specs.declared.shape.Shape.TheVariants as shape
use Rattle.form_shapes.specs.declared.standing.Standing.{Standing}
use Rattle.form_shapes.specs.declared.standing.Standing.TheVariants.{Nothing, Declaration, ImportCall, RequireCall, BadForm, OddImport, OddRequire}
use Rattle.graph_types.specs.Whole.{EditsWell, ExportsWell, IsItem, LieInOrder, declares, calls}
use Rattle.graph_types.specs.declared.binding.Bind.{Bind}
use Rattle.graph_types.specs.declared.binding.Export.{Export}
use Rattle.graph_types.specs.declared.binding.Star.{Star}
use Rattle.graph_types.specs.declared.item.Item.{Item}
use Rattle.graph_types.specs.declared.item.ItemKind.{ItemKind}
use Rattle.graph_types.specs.declared.item.ItemKind.TheVariants as kind
use Rattle.magic_comments.specs.Comments.{begins, line_length}
use Rattle.magic_comments.specs.declared.magic.Magic.{Magic}
use Rattle.es_scan.specs.Binds.{binds_by, named_bind, shape_binds}
use Rattle.es_scan.specs.Default.{default_at}
use Rattle.es_scan.specs.Edits.{call_edit, default_edits_by, edits_by, fixed, hashbang_edits, is_default, is_removed}
use Rattle.es_scan.specs.Exports.{exports_by, shape_exports, specifier_export, variable_export}
use Rattle.es_scan.specs.Items.{declared_kind, item_by, item_of, span_of}
use Rattle.es_scan.specs.Scan.{upto, magic_at, items_at, item_number, binds_at, exports_at, stars_at, edits_at, scan_of}
use Rattle.es_scan.specs.Stars.{shape_stars, stars_by}
use Rattle.es_scan.specs.Whole.{IsWholeScan}
use Rattle.es_scan.specs.declared.default.Default.{Default}
use Rattle.es_scan.specs.declared.default.Default.TheVariants.{Expression, Named, Unnamed}
use Rattle.es_scan.proofs.NumberLemmas.{item_named}
use Rattle.es_scan.proofs.ScanLemmas.{few_items}

-- what holds of each list that the tokens give holds of all of them together
all_append : {X : Type 0} (P : X → Type 0) (xs ys : List X) → AllByRecursion P xs → AllByRecursion P ys → AllByRecursion P (xs ++ ys)
all_append P [] ys first second = second
all_append P (x ∷ xs) ys first second = (first.0, all_append P xs ys first.1 second)

all_upto : {X : Type 0} (P : X → Type 0) (given : ℕ → List X) (size : ℕ) → ((at : ℕ) → at < size → AllByRecursion P (given at))
    → AllByRecursion P (upto given size)
all_upto P given zero each = tt
all_upto P given (suc size) each =
    all_append P (upto given size) (given size) (all_upto P given size (λ at below. each at (omega arith))) (each size (omega arith))

all_map : {X Y : Type 0} (P : Y → Type 0) (f : X → Y) (xs : List X) → ((x : X) → P (f x)) → AllByRecursion P (map f xs)
all_map P f [] each = tt
all_map P f (x ∷ xs) each = (each x, all_map P f xs each)

-- what a declaration gives, where its item is known to be one
pub record AreWell (items : List Item) (binds : List Bind) (exports : List Export) (stars : List Star) : Type 0 where
  pub in_binds : AllByRecursion (λ bind. IsItem declares items bind.item) binds
  pub in_exports : AllByRecursion (λ export. ExportsWell items export.from) exports
  pub in_stars : AllByRecursion (λ star. IsItem declares items star.item) stars

shape_well : (items : List Item) (text : List ℕ) (tokens : List Token) (item at : ℕ) (form : Form) (s : Shape)
    → ((k : ItemKind) → declared_kind s ≡ Some k → IsItem declares items item)
    → AreWell items (shape_binds text tokens item at s) (shape_exports text tokens item at form s) (shape_stars item s)
shape_well items text tokens item at form s known = by s known
  where
    renamed : (k : ℕ) → IsItem declares items item → AllByRecursion (λ bind. IsItem declares items bind.item) (map (named_bind text item) (specifiers text tokens k))
    renamed k named = all_map (λ bind. IsItem declares items bind.item) (named_bind text item) (specifiers text tokens k) (λ part. named)

    passed_on : (k : ℕ) → IsItem declares items item → AllByRecursion (λ export. ExportsWell items export.from) (map (specifier_export text (Some item)) (specifiers text tokens k))
    passed_on k named = all_map (λ export. ExportsWell items export.from) (specifier_export text (Some item)) (specifiers text tokens k) (λ part. named)

    own : (k : ℕ) → AllByRecursion (λ export. ExportsWell items export.from) (map (specifier_export text None) (specifiers text tokens k))
    own k = all_map (λ export. ExportsWell items export.from) (specifier_export text None) (specifiers text tokens k) (λ part. tt)

    variables : (k : ℕ) → AllByRecursion (λ export. ExportsWell items export.from) (map (variable_export text) (declarators text tokens k))
    variables k = all_map (λ export. ExportsWell items export.from) (variable_export text) (declarators text tokens k) (λ part. tt)

    by : (s : Shape) → ((k : ItemKind) → declared_kind s ≡ Some k → IsItem declares items item)
        → AreWell items (shape_binds text tokens item at s) (shape_exports text tokens item at form s) (shape_stars item s)
    by shape.BareImport known = record { in_binds = tt; in_exports = tt; in_stars = tt }
    by shape.DefaultImport known = record { in_binds = (known kind.Import refl, tt); in_exports = tt; in_stars = tt }
    by shape.SpaceImport known = record { in_binds = (known kind.Import refl, tt); in_exports = tt; in_stars = tt }
    by shape.NamesImport known = record { in_binds = renamed (at + 1) (known kind.Import refl); in_exports = tt; in_stars = tt }
    by shape.DefaultSpaceImport known = record { in_binds = (known kind.Import refl, (known kind.Import refl, tt)); in_exports = tt; in_stars = tt }
    by shape.DefaultNamesImport known = record { in_binds = (known kind.Import refl, renamed (at + 3) (known kind.Import refl)); in_exports = tt; in_stars = tt }
    by shape.Call known = record { in_binds = tt; in_exports = tt; in_stars = tt }
    by shape.CommaCall known = record { in_binds = tt; in_exports = tt; in_stars = tt }
    by shape.StarExport known = record { in_binds = tt; in_exports = tt; in_stars = (known kind.ExportFrom refl, tt) }
    by shape.SpaceExport known = record { in_binds = tt; in_exports = (known kind.ExportFrom refl, tt); in_stars = tt }
    by shape.NamesFromExport known = record { in_binds = tt; in_exports = passed_on (at + 1) (known kind.ExportFrom refl); in_stars = tt }
    by shape.NamesExport known = record { in_binds = tt; in_exports = own (at + 1); in_stars = tt }
    by shape.DefaultExport known = record { in_binds = tt; in_exports = (tt, tt); in_stars = tt }
    by shape.VarExport known = record { in_binds = tt; in_exports = variables (at + 2); in_stars = tt }
    by shape.LetExport known = record { in_binds = tt; in_exports = variables (at + 2); in_stars = tt }
    by shape.ConstExport known = record { in_binds = tt; in_exports = variables (at + 2); in_stars = tt }
    by shape.FunctionExport known = record { in_binds = tt; in_exports = (tt, tt); in_stars = tt }
    by shape.GeneratorExport known = record { in_binds = tt; in_exports = (tt, tt); in_stars = tt }
    by shape.AsyncFunctionExport known = record { in_binds = tt; in_exports = (tt, tt); in_stars = tt }
    by shape.AsyncGeneratorExport known = record { in_binds = tt; in_exports = (tt, tt); in_stars = tt }
    by shape.ClassExport known = record { in_binds = tt; in_exports = (tt, tt); in_stars = tt }

kind_declares : (s : Shape) (k : ItemKind) → declared_kind s ≡ Some k → declares k ≡ true
kind_declares s k e = by s e
  where
    import_is : (k : ItemKind) → Some kind.Import ≡ Some k → declares k ≡ true
    import_is kind.Import e = refl
    import_is kind.ExportFrom e = refl
    import_is kind.Require e = absurd (cc)
    import_is kind.Lazy e = absurd (cc)
    import_is kind.Eager e = absurd (cc)

    export_is : (k : ItemKind) → Some kind.ExportFrom ≡ Some k → declares k ≡ true
    export_is kind.Import e = refl
    export_is kind.ExportFrom e = refl
    export_is kind.Require e = absurd (cc)
    export_is kind.Lazy e = absurd (cc)
    export_is kind.Eager e = absurd (cc)

    by : (s : Shape) → declared_kind s ≡ Some k → declares k ≡ true
    by shape.BareImport e = import_is k e
    by shape.DefaultImport e = import_is k e
    by shape.SpaceImport e = import_is k e
    by shape.NamesImport e = import_is k e
    by shape.DefaultSpaceImport e = import_is k e
    by shape.DefaultNamesImport e = import_is k e
    by shape.StarExport e = export_is k e
    by shape.SpaceExport e = export_is k e
    by shape.NamesFromExport e = export_is k e
    by shape.Call e = absurd (cc)
    by shape.CommaCall e = absurd (cc)
    by shape.NamesExport e = absurd (cc)
    by shape.DefaultExport e = absurd (cc)
    by shape.VarExport e = absurd (cc)
    by shape.LetExport e = absurd (cc)
    by shape.ConstExport e = absurd (cc)
    by shape.FunctionExport e = absurd (cc)
    by shape.GeneratorExport e = absurd (cc)
    by shape.AsyncFunctionExport e = absurd (cc)
    by shape.AsyncGeneratorExport e = absurd (cc)
    by shape.ClassExport e = absurd (cc)

-- the item that a declaration with a kind gives
declared_here : (text : List ℕ) (tokens : List Token) (at : ℕ) (form : Form) (k : ItemKind) → standing_at text tokens at ≡ Declaration form
    → declared_kind form.shape ≡ Some k → (item : Item) × (items_at text tokens at ≡ item ∷ []) × (item.kind ≡ k)
unfolding items_at item_by
declared_here text tokens at form k e is =
    (item_of text tokens k (span_of tokens at form.end) (form.parts - 1) None, rw (e, is) refl, refl)

-- the item with a token's number, where the token gives one
item_is : (text : List ℕ) (tokens : List Token) (at : ℕ) (test : ItemKind → Bool) (item : Item) → at < length tokens
    → items_at text tokens at ≡ item ∷ [] → test item.kind ≡ true
    → IsItem test (upto (items_at text tokens) (length tokens)) (item_number text tokens at)
item_is text tokens at test item there gives is = (item, item_named text tokens at (length tokens) item there gives, is)

module _ (text : List ℕ) (tokens : List Token) where
  items : List Item
  items = upto (items_at text tokens) (length tokens)

  declared_item_is : (at : ℕ) (form : Form) → at < length tokens → standing_at text tokens at ≡ Declaration form
      → (k : ItemKind) → declared_kind form.shape ≡ Some k → IsItem declares items (item_number text tokens at)
  unfolding items
  declared_item_is at form there e k is =
      let found : (item : Item) × (items_at text tokens at ≡ item ∷ []) × (item.kind ≡ k) = declared_here text tokens at form k e is in
      item_is text tokens at declares found.0 there found.1 (ap declares found.2 ∙ kind_declares form.shape k is)

  given_well : (at : ℕ) (standing : Standing) → at < length tokens → standing_at text tokens at ≡ standing
      → AreWell items (binds_by text tokens (item_number text tokens at) at standing) (exports_by text tokens (item_number text tokens at) at standing)
      (stars_by (item_number text tokens at) standing)
  unfolding binds_by exports_by stars_by
  given_well at (Declaration form) there e =
      shape_well items text tokens (item_number text tokens at) at form form.shape (declared_item_is at form there e)
  given_well at Nothing there e = record { in_binds = tt; in_exports = tt; in_stars = tt }
  given_well at (ImportCall form) there e = record { in_binds = tt; in_exports = tt; in_stars = tt }
  given_well at (RequireCall form) there e = record { in_binds = tt; in_exports = tt; in_stars = tt }
  given_well at BadForm there e = record { in_binds = tt; in_exports = tt; in_stars = tt }
  given_well at OddImport there e = record { in_binds = tt; in_exports = tt; in_stars = tt }
  given_well at OddRequire there e = record { in_binds = tt; in_exports = tt; in_stars = tt }

  well_here : (at : ℕ) → at < length tokens → AreWell items (binds_at text tokens at) (exports_at text tokens at) (stars_at text tokens at)
  unfolding binds_at exports_at stars_at
  well_here at there = given_well at (standing_at text tokens at) there refl

  -- what is put for a token names a call
  default_well : (at : ℕ) (default : Default) → AllByRecursion (λ edit. EditsWell items edit.put) (default_edits_by tokens at default)
  default_well at Expression = (tt, tt)
  default_well at (Named name) = (tt, tt)
  default_well at (Unnamed last) = (tt, (tt, tt))

  declared_well : (at : ℕ) (form : Form) (removed default : Bool)
      → AllByRecursion (λ edit. EditsWell items edit.put)
      (cond removed (fixed (span_of tokens at form.end) (codes ";") ∷ [])
      (cond default (default_edits_by tokens at (default_at text tokens (at + 2))) (fixed (span_of tokens at (at + 1)) (codes "") ∷ [])))
  declared_well at form true default = (tt, tt)
  declared_well at form false true = default_well at (default_at text tokens (at + 2))
  declared_well at form false false = (tt, tt)

  import_items : (at : ℕ) (form : Form) (magic : Magic) (standing : Standing) → standing ≡ ImportCall form → magic.ignored ≡ false
      → option_to_list (item_by text tokens at magic standing)
      ≡ item_of text tokens (cond magic.eager kind.Eager kind.Lazy) (span_of tokens at form.end) (at + 2) (cond magic.eager None magic.name) ∷ []
  unfolding item_by
  import_items at form magic standing e counts = rw (e, counts) refl

  import_here : (at : ℕ) (form : Form) → standing_at text tokens at ≡ ImportCall form → (magic_at text tokens at).ignored ≡ false
      → (item : Item) × (items_at text tokens at ≡ item ∷ []) × (calls item.kind ≡ true)
  unfolding items_at
  import_here at form e counts = (
    item_of text tokens (cond (magic_at text tokens at).eager kind.Eager kind.Lazy) (span_of tokens at form.end) (at + 2)
        (cond (magic_at text tokens at).eager None (magic_at text tokens at).name),
    import_items at form (magic_at text tokens at) (standing_at text tokens at) e counts,
    by (magic_at text tokens at).eager,
  )
    where
      by : (eager : Bool) → calls (cond eager kind.Eager kind.Lazy) ≡ true
      by true = refl
      by false = refl

  require_here : (at : ℕ) (form : Form) → standing_at text tokens at ≡ RequireCall form
      → (item : Item) × (items_at text tokens at ≡ item ∷ []) × (calls item.kind ≡ true)
  unfolding items_at item_by
  require_here at form e = (item_of text tokens kind.Require (span_of tokens at form.end) (at + 2) None, rw e refl, refl)

  call_well : (at : ℕ) → at < length tokens → (item : Item) × (items_at text tokens at ≡ item ∷ []) × (calls item.kind ≡ true)
      → IsItem calls items (item_number text tokens at)
  unfolding items
  call_well at there found = item_is text tokens at calls found.0 there found.1 found.2

  import_well : (at : ℕ) (form : Form) (ignored : Bool) → at < length tokens → standing_at text tokens at ≡ ImportCall form
      → (magic_at text tokens at).ignored ≡ ignored
      → AllByRecursion (λ edit. EditsWell items edit.put) (cond ignored [] (call_edit tokens (item_number text tokens at) at form ∷ []))
  import_well at form true there e is = tt
  import_well at form false there e is = (call_well at there (import_here at form e is), tt)

  edits_well : (at : ℕ) (standing : Standing) → at < length tokens → standing_at text tokens at ≡ standing
      → AllByRecursion (λ edit. EditsWell items edit.put)
      (edits_by text tokens (item_number text tokens at) at (magic_at text tokens at) standing)
  unfolding edits_by
  edits_well at (Declaration form) there e = declared_well at form (is_removed form.shape) (is_default form.shape)
  edits_well at (ImportCall form) there e = import_well at form (magic_at text tokens at).ignored there e refl
  edits_well at (RequireCall form) there e = (call_well at there (require_here at form e), tt)
  edits_well at Nothing there e = tt
  edits_well at BadForm there e = tt
  edits_well at OddImport there e = tt
  edits_well at OddRequire there e = tt

  edits_here : (at : ℕ) → at < length tokens → AllByRecursion (λ edit. EditsWell items edit.put) (edits_at text tokens at)
  unfolding edits_at
  edits_here at there = edits_well at (standing_at text tokens at) there refl

  hashbang_well : AllByRecursion (λ edit. EditsWell items edit.put) (hashbang_edits text)
  unfolding hashbang_edits
  hashbang_well = by (begins text (codes "#!"))
    where
      by : (b : Bool) → AllByRecursion (λ edit. EditsWell items edit.put)
          (cond b (fixed (record { start = 0; end = line_length text }) (codes "") ∷ []) [])
      by true = (tt, tt)
      by false = tt

  -- all tokens begin in the text
  begins_within : (from : ℕ) (some : List Token)
      → EachBehind (λ from token. (from ≤ token.span.start) × (token.span.start < token.span.end)) (λ from. from ≤ length text) from some
      → (from ≤ length text) × ((k : ℕ) → start_at some k ≤ length text)
  begins_within from [] lie = (lie, λ k. none k)
    where
      none : (k : ℕ) → start_at [] k ≤ length text
      none k = omega arith
  begins_within from (token ∷ some) lie =
      let more : (token.span.end ≤ length text) × ((k : ℕ) → start_at some k ≤ length text) = begins_within token.span.end some lie.1 in
      (omega (arith, lie.0.0, lie.0.1, more.0), λ k. by k more)
    where
      by : (k : ℕ) → (token.span.end ≤ length text) × ((k : ℕ) → start_at some k ≤ length text) → start_at (token ∷ some) k ≤ length text
      by zero more = omega (arith, lie.0.1, more.0)
      by (suc k) more = more.1 k

  pub starts_within : AreInOrder text tokens → (k : ℕ) → start_at tokens k ≤ length text
  starts_within order = (begins_within 0 tokens order).1

  places_option : (some : Option Item) → ((item : Item) → some ≡ Some item → item.at ≤ length text)
      → AllByRecursion (λ item. item.at ≤ length text) (option_to_list some)
  places_option None each = tt
  places_option (Some item) each = (each item refl, tt)

  places_by : ((k : ℕ) → start_at tokens k ≤ length text) → (at : ℕ) (magic : Magic) (standing : Standing)
      → AllByRecursion (λ item. item.at ≤ length text) (option_to_list (item_by text tokens at magic standing))
  unfolding item_by
  places_by within at magic (Declaration form) = by (declared_kind form.shape)
    where
      by : (some : Option ItemKind) → AllByRecursion (λ item. item.at ≤ length text)
          (option_to_list (option_map (λ kind. item_of text tokens kind (span_of tokens at form.end) (form.parts - 1) None) some))
      by None = tt
      by (Some kind) = (within (form.parts - 1), tt)
  places_by within at magic (ImportCall form) = by magic.ignored
    where
      by : (ignored : Bool) → AllByRecursion (λ item. item.at ≤ length text) (option_to_list (cond ignored None
          (Some (item_of text tokens (cond magic.eager kind.Eager kind.Lazy) (span_of tokens at form.end) (at + 2) (cond magic.eager None magic.name)))))
      by true = tt
      by false = (within (at + 2), tt)
  places_by within at magic (RequireCall form) = (within (at + 2), tt)
  places_by within at magic Nothing = tt
  places_by within at magic BadForm = tt
  places_by within at magic OddImport = tt
  places_by within at magic OddRequire = tt

  places_here : ((k : ℕ) → start_at tokens k ≤ length text) → (at : ℕ) → AllByRecursion (λ item. item.at ≤ length text) (items_at text tokens at)
  unfolding items_at
  places_here within at = places_by within at (magic_at text tokens at) (standing_at text tokens at)

  pub whole : (path : List ℕ) → length text ≤ MAX_TEXT → AreInOrder text tokens → length tokens ≤ length text
      → LieInOrder 0 (length text) (hashbang_edits text ++ upto (edits_at text tokens) (length tokens)) → IsWholeScan text (scan_of path text tokens)
  unfolding scan_of items
  whole path short order count spans = record {
    few = omega (arith, few_items text tokens (length tokens));
    places = all_upto (λ item. item.at ≤ length text) (items_at text tokens) (length tokens)
        (λ at there. places_here (starts_within order) at);
    spans = spans;
    loads = all_append (λ edit. EditsWell items edit.put) (hashbang_edits text) (upto (edits_at text tokens) (length tokens))
        hashbang_well (all_upto (λ edit. EditsWell items edit.put) (edits_at text tokens) (length tokens) edits_here);
    binds = all_upto (λ bind. IsItem declares items bind.item) (binds_at text tokens) (length tokens) (λ at there. (well_here at there).in_binds);
    stars = all_upto (λ star. IsItem declares items star.item) (stars_at text tokens) (length tokens) (λ at there. (well_here at there).in_stars);
    exports = all_upto (λ export. ExportsWell items export.from) (exports_at text tokens) (length tokens) (λ at there. (well_here at there).in_exports);
  }
