-- The record that a whole scan gives.
use Rattle.std.proofs.Common.{◌≤◌, ℕ, List, length, refl}
use Rattle.es_scan.specs.Whole.{IsWholeScan}
use Rattle.es_scan.specs.declared.scanned.Scan.{Scan}
use Rattle.pack_util.specs.declared.number.TheConstants.{MAX_TEXT}
use Rattle.pack_util.specs.declared.number.FileId.{FileId}
use Rattle.module_parse.specs.Scripts.{scanned_record}
use Rattle.module_parse.specs.Whole.{IsParsed}

pub parsed_by : (file : FileId) (path text : List ℕ) (scan : Scan) → length text ≤ MAX_TEXT → IsWholeScan text scan → IsParsed file (scanned_record file path text scan)
parsed_by file path text scan short whole = record {
  file_is = refl;
  size_is = refl;
  short = short;
  few = whole.few;
  places = whole.places;
  spans = whole.spans;
  loads = whole.loads;
  binds = whole.binds;
  stars = whole.stars;
  exports = whole.exports;
}
