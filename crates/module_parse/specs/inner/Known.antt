-- A record of which nothing but the file, its text and its faults are known (this project).
use Rattle.std.specs.Prelude.{ℕ, List}
use Rattle.fault_place.specs.declared.fault.Fault.{Fault}
use Rattle.pack_util.specs.declared.number.FileId.{FileId}
use Rattle.graph_types.specs.declared.record.ModKind.{ModKind}
use Rattle.graph_types.specs.declared.record.ModRecord.{ModRecord}
use Rattle.module_parse.specs.Bare.{bare_record}

abbrev pub known_record : FileId → List ℕ → ℕ → ModKind → List ℕ → List Fault → ModRecord
known_record file path size kind text faults = record (bare_record file path size kind) { text = text; faults = faults }
