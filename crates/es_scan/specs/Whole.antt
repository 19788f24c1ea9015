-- A scan on which the later phases may rely, but for the targets of its items, which come later (this project).
use Rattle.std.specs.Prelude.{ℕ, ◌≡◌, ◌<◌, ◌≤◌, ◌^◌, ◌⊎◌, ◌||◌, List, length, is_some, IsTrue}
use Rattle.std.specs.List.{AllByRecursion, AllZip}
use Rattle.graph_types.specs.Whole.{EditsWell, ExportsWell, IsItem, LieInOrder, declares, is_require}
use Rattle.graph_types.specs.declared.item.Item.{Item}
use Rattle.graph_types.specs.declared.record.ModRecord.{ModRecord}
use Rattle.es_scan.specs.declared.scanned.Scan.{Scan}

pub record IsWholeScan (text : List ℕ) (scan : Scan) : Type 0 where
  pub few : length scan.items < 2 ^ 32
  pub places : AllByRecursion (λ item. item.at ≤ length text) scan.items
  pub spans : LieInOrder 0 (length text) scan.edits
  pub loads : AllByRecursion (λ edit. EditsWell scan.items edit.put) scan.edits
  pub binds : AllByRecursion (λ bind. IsItem declares scan.items bind.item) scan.binds
  pub stars : AllByRecursion (λ star. IsItem declares scan.items star.item) scan.stars
  pub exports : AllByRecursion (λ export. ExportsWell scan.items export.from) scan.exports

-- items of one kind at one place, whatever else they say
abbrev pub AreLikeItems : Item → Item → Type 0
AreLikeItems one other = (other.kind ≡ one.kind) × (other.at ≡ one.at)

-- a record with the lists of a scan and items like those of the scan, each but a `require` with a target, or with a fault
pub record TellsOf (scan : Scan) (rec : ModRecord) : Type 0 where
  pub items : AllZip AreLikeItems scan.items rec.items
  pub binds : rec.binds ≡ scan.binds
  pub exports : rec.exports ≡ scan.exports
  pub stars : rec.stars ≡ scan.stars
  pub edits : rec.edits ≡ scan.edits
  pub targets : AllByRecursion (λ item. IsTrue (is_require item.kind || is_some item.target)) rec.items ⊎ (length rec.faults ≡ 0 → ⊥)
