-- Whole records (this project): what the later phases may rely on in each record.
use Rattle.std.specs.Prelude.{◌≡◌, ℕ, ◌<◌, ◌≤◌, ◌^◌, ◌⊎◌, ◌||◌, Bool, true, false, List, [], ◌∷◌, length, slice_get, Some, is_some, IsTrue}
use Rattle.std.specs.List.{AllByRecursion}
use Rattle.graph_types.specs.declared.binding.ExportFrom.{ExportFrom}
use Rattle.graph_types.specs.declared.binding.ExportFrom.TheVariants.{Local, Name, Space}
use Rattle.graph_types.specs.declared.edit.Edit.{Edit}
use Rattle.graph_types.specs.declared.edit.EditText.{EditText}
use Rattle.graph_types.specs.declared.edit.EditText.TheVariants.{Fixed, Load}
use Rattle.graph_types.specs.declared.item.Item.{Item}
use Rattle.graph_types.specs.declared.item.ItemKind.{ItemKind}
use Rattle.graph_types.specs.declared.item.ItemKind.TheVariants as kinds
use Rattle.graph_types.specs.declared.record.ModRecord.{ModRecord}

-- an import or an export with a module's name
abbrev pub declares : ItemKind → Bool
declares kinds.Import = true
declares kinds.ExportFrom = true
declares kinds.Require = false
declares kinds.Lazy = false
declares kinds.Eager = false

-- a call that names a module
abbrev pub calls : ItemKind → Bool
calls kinds.Import = false
calls kinds.ExportFrom = false
calls kinds.Require = true
calls kinds.Lazy = true
calls kinds.Eager = true

abbrev pub is_require : ItemKind → Bool
is_require kinds.Import = false
is_require kinds.ExportFrom = false
is_require kinds.Require = true
is_require kinds.Lazy = false
is_require kinds.Eager = false

-- the item with this number is there and is of such a kind
abbrev pub IsItem : (ItemKind → Bool) → List Item → ℕ → Type 0
IsItem test items number = (item : Item) × (slice_get items number ≡ Some item) × IsTrue (test item.kind)

abbrev pub ExportsWell : List Item → ExportFrom → Type 0
ExportsWell items (Local name) = Unit {0}
ExportsWell items (Name number name) = IsItem declares items number
ExportsWell items (Space number) = IsItem declares items number

abbrev pub EditsWell : List Item → EditText → Type 0
EditsWell items (Fixed text) = Unit {0}
EditsWell items (Load number) = IsItem calls items number

-- the spans of edits lie in a text of this length from a place on, in order and disjoint
abbrev pub LieInOrder : ℕ → ℕ → List Edit → Type 0
LieInOrder from size [] = Unit {0}
LieInOrder from size (edit ∷ edits) =
    (from ≤ edit.span.start) × (edit.span.start ≤ edit.span.end) × (edit.span.end ≤ size) × LieInOrder edit.span.end size edits

pub record IsWhole (rec : ModRecord) : Type 0 where
  pub few : length rec.items < 2 ^ 32
  pub places : AllByRecursion (λ item. item.at ≤ length rec.text) rec.items
  pub spans : LieInOrder 0 (length rec.text) rec.edits
  pub loads : AllByRecursion (λ edit. EditsWell rec.items edit.put) rec.edits
  pub binds : AllByRecursion (λ bind. IsItem declares rec.items bind.item) rec.binds
  pub stars : AllByRecursion (λ star. IsItem declares rec.items star.item) rec.stars
  pub exports : AllByRecursion (λ export. ExportsWell rec.items export.from) rec.exports
  -- each item but a `require` has a target, or the record has a fault
  pub targets : AllByRecursion (λ item. IsTrue (is_require item.kind || is_some item.target)) rec.items ⊎ (length rec.faults ≡ 0 → ⊥)
