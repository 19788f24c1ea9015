-- How the text of a file is read, by the ending of its path (Node.js, "Determining module system" and "JSON modules"; this
-- project: which endings there are).
use Rattle.std.specs.Prelude.{ℕ, Bool, ◌||◌, List, codes, nat_eq, length, Result, Ok, Err, if◌then◌else◌}
use Rattle.std.specs.List.{ends_with}
use Rattle.es_tokens.specs.Tokens.{tokens_of}
use Rattle.fault_place.specs.declared.fault.FaultKind.TheVariants.{BadJson, BadType}
use Rattle.pack_util.specs.declared.number.FileId.{FileId}
use Rattle.graph_types.specs.declared.record.ModKind.TheVariants.{Json, Bad}
use Rattle.graph_types.specs.declared.record.ModRecord.{ModRecord}
use Rattle.json_order.specs.Answer.{IsAnswer}
use Rattle.json_order.specs.declared.fault.JsonFault.{JsonFault}
use Rattle.json_order.specs.declared.tree.JsonTree.{JsonTree}
use Rattle.module_parse.specs.Bare.{bare_record, fault_at, faulty_record}
use Rattle.module_parse.specs.Scripts.{script_record}

abbrev pub is_json : List ℕ → Bool
is_json path = ends_with nat_eq path (codes ".json")

abbrev pub is_script : List ℕ → Bool
is_script path = ends_with nat_eq path (codes ".js") || ends_with nat_eq path (codes ".mjs") || ends_with nat_eq path (codes ".cjs")

-- which JSON value each text is, or its first fault: there is one such reading of texts (json_order's laws)
abbrev pub Reading : Type 0
Reading = List ℕ → Result JsonTree JsonFault

abbrev pub IsReading : Reading → Type 0
IsReading reading = (text : List ℕ) → IsAnswer text (reading text)

-- the record of a text that is one JSON value
abbrev pub value_record : FileId → List ℕ → List ℕ → ModRecord
value_record file path text = record (bare_record file path (length text) Json) { text = text }

-- the record of a text that is to be one
abbrev pub json_record : FileId → List ℕ → List ℕ → Result JsonTree JsonFault → ModRecord
json_record file path text (Ok tree) = value_record file path text
json_record file path text (Err fault) = faulty_record file path text Json (fault_at path text fault.offset BadJson)

-- the record of the text of the file at a path
abbrev pub parsed_record : Reading → FileId → List ℕ → List ℕ → ModRecord
parsed_record reading file path text =
    if is_json path then json_record file path text (reading text)
    else (if is_script path then script_record file path text (tokens_of text)
    else faulty_record file path text Bad (fault_at path text 0 BadType))
