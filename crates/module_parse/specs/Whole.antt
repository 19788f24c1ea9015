-- A record on which the later phases may rely, but for the targets of its items, which come later (this project).
use Rattle.std.specs.Prelude.{◌≡◌, ◌<◌, ◌≤◌, ◌^◌, length}
use Rattle.std.specs.List.{AllByRecursion}
use Rattle.pack_util.specs.declared.number.TheConstants.{MAX_TEXT}
use Rattle.pack_util.specs.declared.number.FileId.{FileId}
use Rattle.graph_types.specs.Whole.{EditsWell, ExportsWell, IsItem, LieInOrder, declares}
use Rattle.graph_types.specs.declared.record.ModRecord.{ModRecord}

pub record IsParsed (file : FileId) (rec : ModRecord) : Type 0 where
  pub file_is : rec.file ≡ file
  pub size_is : rec.size ≡ length rec.text
  pub short : length rec.text ≤ MAX_TEXT
  pub few : length rec.items < 2 ^ 32
  pub places : AllByRecursion (λ item. item.at ≤ length rec.text) rec.items
  pub spans : LieInOrder 0 (length rec.text) rec.edits
  pub loads : AllByRecursion (λ edit. EditsWell rec.items edit.put) rec.edits
  pub binds : AllByRecursion (λ bind. IsItem declares rec.items bind.item) rec.binds
  pub stars : AllByRecursion (λ star. IsItem declares rec.items star.item) rec.stars
  pub exports : AllByRecursion (λ export. ExportsWell rec.items export.from) rec.exports
