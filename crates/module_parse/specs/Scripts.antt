-- Texts that are JavaScript (ECMA-262, sections 12 and 16.2, as `es_tokens` and `es_scan` have them).
use Rattle.std.specs.Prelude.{ℕ, Bool, true, false, List, length, Result, Ok, Err}
use Rattle.es_scan.specs.Scan.{scan_of}
use Rattle.es_scan.specs.declared.scanned.Scan.{Scan}
use Rattle.es_tokens.specs.declared.token.Token.{Token}
use Rattle.es_tokens.specs.declared.token.TokenFault.{TokenFault}
use Rattle.es_tokens.specs.declared.token.TokenKind.{TokenKind}
use Rattle.es_tokens.specs.declared.token.TokenKind.TheVariants as tokens
use Rattle.fault_place.specs.declared.fault.FaultKind.{FaultKind}
use Rattle.fault_place.specs.declared.fault.FaultKind.TheVariants.{NotUtf8, Unfinished, Stray, Unmatched, Depth, Open}
use Rattle.pack_util.specs.declared.number.FileId.{FileId}
use Rattle.graph_types.specs.declared.record.ModKind.{ModKind}
use Rattle.graph_types.specs.declared.record.ModKind.TheVariants.{Es, Plain}
use Rattle.graph_types.specs.declared.record.ModRecord.{ModRecord}
use Rattle.module_parse.specs.Bare.{bare_record, fault_at, faulty_record}

-- a module with an import or an export declaration is an ES module
abbrev pub script_kind : Bool → ModKind
script_kind true = Es
script_kind false = Plain

abbrev pub fault_kind : TokenKind → FaultKind
fault_kind tokens.NotUtf8 = NotUtf8
fault_kind tokens.Unfinished = Unfinished
fault_kind tokens.Stray = Stray
fault_kind tokens.Unmatched = Unmatched
fault_kind tokens.Depth = Depth
fault_kind tokens.Open = Open

-- all that a scan says of a text
abbrev pub scanned_record : FileId → List ℕ → List ℕ → Scan → ModRecord
scanned_record file path text scan = record (bare_record file path (length text) (script_kind scan.es)) {
  text = text;
  items = scan.items;
  binds = scan.binds;
  exports = scan.exports;
  stars = scan.stars;
  edits = scan.edits;
  notes = scan.notes;
  faults = scan.faults;
}

-- the record of a text by its tokens; their first fault is its only one
abbrev pub script_record : FileId → List ℕ → List ℕ → Result (List Token) TokenFault → ModRecord
script_record file path text (Ok tokens) = scanned_record file path text (scan_of path text tokens)
script_record file path text (Err fault) = faulty_record file path text Plain (fault_at path text fault.offset (fault_kind fault.kind))
