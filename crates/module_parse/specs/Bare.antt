-- Records that name nothing (this project).
use Rattle.std.specs.Prelude.{ℕ, List, [], ◌∷◌, length}
use Rattle.fault_place.specs.Place.{place_in}
use Rattle.fault_place.specs.declared.fault.Fault.{Fault}
use Rattle.fault_place.specs.declared.fault.FaultKind.{FaultKind}
use Rattle.fault_place.specs.declared.fault.FaultKind.TheVariants.{TooLong}
use Rattle.pack_util.specs.declared.number.FileId.{FileId}
use Rattle.graph_types.specs.declared.record.ModKind.{ModKind}
use Rattle.graph_types.specs.declared.record.ModKind.TheVariants.{Bad}
use Rattle.graph_types.specs.declared.record.ModRecord.{ModRecord}

-- a record of which nothing but the file is known
abbrev pub bare_record : FileId → List ℕ → ℕ → ModKind → ModRecord
bare_record file path size kind = record {
  file = file;
  path = path;
  size = size;
  kind = kind;
  text = [];
  items = [];
  binds = [];
  exports = [];
  stars = [];
  edits = [];
  notes = [];
  faults = [];
}

-- a fault that names nothing, at an offset of a text
abbrev pub fault_at : List ℕ → List ℕ → ℕ → FaultKind → Fault
fault_at path text offset kind = record { place = place_in path text offset; kind = kind; detail = [] }

-- the record of a text with one fault
abbrev pub faulty_record : FileId → List ℕ → List ℕ → ModKind → Fault → ModRecord
faulty_record file path text kind fault = record (bare_record file path (length text) kind) { text = text; faults = fault ∷ [] }

-- the record of a file that is too long to be read, by its length
abbrev pub long_record : FileId → List ℕ → ℕ → ModRecord
long_record file path size = record (bare_record file path size Bad) { faults = fault_at path [] 0 TooLong ∷ [] }
