-- Items of the same kinds at the same places are as good as those of a scan.
use Rattle.std.proofs.Common.{◌≡◌, ◌≤◌, ℕ, suc, zero, Bool, List, [], ◌∷◌, Some, length, refl, sym, ap, subst, ◌∙◌, arith}
use Rattle.std.specs.Prelude.{IsTrue, slice_get}
use Rattle.std.specs.List.{AllByRecursion, AllZip}
use Rattle.std.proofs.lemmas.Slice.Zip.{AllZip-long}
use Rattle.graph_types.specs.Whole.{EditsWell, ExportsWell, IsItem, IsWhole, LieInOrder, calls, declares}
use Rattle.graph_types.specs.declared.binding.ExportFrom.{ExportFrom}
use Rattle.graph_types.specs.declared.binding.ExportFrom.TheVariants.{Local, Name, Space}
use Rattle.graph_types.specs.declared.edit.EditText.{EditText}
use Rattle.graph_types.specs.declared.edit.EditText.TheVariants.{Fixed, Load}
use Rattle.graph_types.specs.declared.item.Item.{Item}
use Rattle.graph_types.specs.declared.item.ItemKind.{ItemKind}
use Rattle.graph_types.specs.declared.record.ModRecord.{ModRecord}
use Rattle.es_scan.specs.Whole.{AreLikeItems, IsWholeScan, TellsOf}
use Rattle.es_scan.specs.declared.scanned.Scan.{Scan}

-- what holds of each holds of each
each : {X : Type 0} (P Q : X → Type 0) (xs : List X) → ((x : X) → P x → Q x) → AllByRecursion P xs → AllByRecursion Q xs
each P Q [] so all = tt
each P Q (x ∷ xs) so all = (so x all.0, each P Q xs so all.1)

alike-here : (old new : List Item) (number : ℕ) (item : Item) → AllZip AreLikeItems old new → slice_get old number ≡ Some item
    → (other : Item) × (slice_get new number ≡ Some other) × (other.kind ≡ item.kind)
alike-here [] [] number item alike here = cc
alike-here [] (y ∷ new) number item alike here = absurd alike
alike-here (x ∷ old) [] number item alike here = absurd alike
alike-here (x ∷ old) (y ∷ new) zero item alike here = let same : x ≡ item = cc in (y, refl, alike.0.0 ∙ ap (λ i. i.kind) same)
alike-here (x ∷ old) (y ∷ new) (suc number) item alike here = alike-here old new number item alike.1 here

alike-places : (size : ℕ) (old new : List Item) → AllZip AreLikeItems old new → AllByRecursion (λ item. item.at ≤ size) old → AllByRecursion (λ item. item.at ≤ size) new
alike-places size [] [] alike all = tt
alike-places size [] (y ∷ new) alike all = absurd alike
alike-places size (x ∷ old) [] alike all = absurd alike
alike-places size (x ∷ old) (y ∷ new) alike all = (omega (arith, alike.0.1, all.0), alike-places size old new alike.1 all.1)

module _ (old new : List Item) (alike : AllZip AreLikeItems old new) where
  item-alike : (test : ItemKind → Bool) (number : ℕ) → IsItem test old number → IsItem test new number
  item-alike test number is =
      let other = alike-here old new number is.0 alike is.1 in
      (other.0, other.1, subst (λ kind. IsTrue (test kind)) (sym other.2) is.2)

  edit-alike : (put : EditText) → EditsWell old put → EditsWell new put
  edit-alike (Fixed text) well = tt
  edit-alike (Load number) well = item-alike calls number well

  export-alike : (from : ExportFrom) → ExportsWell old from → ExportsWell new from
  export-alike (Local name) well = tt
  export-alike (Name number name) well = item-alike declares number well
  export-alike (Space number) well = item-alike declares number well

pub keeps-whole : (text : List ℕ) (scan : Scan) (items : List Item) → AllZip AreLikeItems scan.items items → IsWholeScan text scan
    → IsWholeScan text (record scan { items = items })
keeps-whole text scan items alike whole = record {
  few = omega (arith, AllZip-long AreLikeItems scan.items items alike, whole.few);
  places = alike-places (length text) scan.items items alike whole.places;
  spans = whole.spans;
  loads = each (λ edit. EditsWell scan.items edit.put) (λ edit. EditsWell items edit.put) scan.edits (λ edit. edit-alike scan.items items alike edit.put) whole.loads;
  binds = each (λ bind. IsItem declares scan.items bind.item) (λ bind. IsItem declares items bind.item) scan.binds
      (λ bind. item-alike scan.items items alike declares bind.item) whole.binds;
  stars = each (λ star. IsItem declares scan.items star.item) (λ star. IsItem declares items star.item) scan.stars
      (λ star. item-alike scan.items items alike declares star.item) whole.stars;
  exports = each (λ export. ExportsWell scan.items export.from) (λ export. ExportsWell items export.from) scan.exports
      (λ export. export-alike scan.items items alike export.from) whole.exports;
}

pub record-whole : (rec : ModRecord) (scan : Scan) → IsWholeScan rec.text scan → TellsOf scan rec → IsWhole rec
record-whole rec scan whole tells =
    let w = keeps-whole rec.text scan rec.items tells.items whole in
    record {
      few = w.few;
      places = w.places;
      spans = subst (LieInOrder 0 (length rec.text)) (sym tells.edits) w.spans;
      loads = subst (AllByRecursion (λ edit. EditsWell rec.items edit.put)) (sym tells.edits) w.loads;
      binds = subst (AllByRecursion (λ bind. IsItem declares rec.items bind.item)) (sym tells.binds) w.binds;
      stars = subst (AllByRecursion (λ star. IsItem declares rec.items star.item)) (sym tells.stars) w.stars;
      exports = subst (AllByRecursion (λ export. ExportsWell rec.items export.from)) (sym tells.exports) w.exports;
      targets = tells.targets;
    }
