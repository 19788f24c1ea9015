-- The record of a module (this project): what its text says, with each request resolved.
use Rattle.std.specs.Prelude.{ℕ, List, [], ◌++◌, map, filter_map, unwrap_or}
use Rattle.fault_place.specs.Fault.{in_order}
use Rattle.pack_util.specs.declared.number.TheConstants.{MAX_TEXT}
use Rattle.pack_util.specs.declared.number.FileId.{FileId}
use Rattle.graph_types.specs.Modules.{file_id}
use Rattle.graph_types.specs.declared.config.Config.{Config}
use Rattle.graph_types.specs.declared.item.Item.{Item}
use Rattle.graph_types.specs.declared.record.ModRecord.{ModRecord}
use Rattle.module_parse.specs.Bare.{long_record}
use Rattle.module_parse.specs.Parsed.{parsed_record}
use Rattle.outside.specs.Reads.{read_of}
use Rattle.outside.specs.Tree.{Tree, bytes_at}
use Rattle.outside.specs.declared.entry.ReadGot.{ReadGot}
use Rattle.outside.specs.declared.entry.ReadGot.TheVariants.{Whole, TooLong}
use Rattle.path_text.specs.Path.{parent_of}
use Rattle.resolve_path.specs.Resolution.{resolution_of}
use Rattle.resolve_path.specs.declared.request_kind.RequestKind.{RequestKind}
use Rattle.resolve_path.specs.declared.resolution.Resolution.{Resolution}
use Rattle.tree_listing.specs.Listing.{lengths_of, length_at, path_at}
use Rattle.module_build.specs.Answers.{answered_item, asks_as, request_fault, request_note}
use Rattle.module_build.specs.Merged.{merged}
use Rattle.module_build.specs.Readings.{Readings}
use Rattle.module_build.specs.declared.asked.Asked.{Asked}

-- what requests name
abbrev pub Naming : Type 0
Naming = List ℕ → RequestKind → Resolution

abbrev pub asked_by : Naming → Item → Asked
asked_by naming item = record { item = item; answer = naming item.request (asks_as item.kind) }

-- a record whose items have these answers: their files, and what is noted and told of those that name none
unfoldable pub answered : ModRecord → List Asked → ModRecord
answered rec asked = record rec {
  items = map answered_item asked;
  notes = merged rec.notes (filter_map request_note asked);
  faults = in_order (rec.faults ++ filter_map (request_fault rec.path rec.text) asked);
}

abbrev pub resolved : Naming → ModRecord → ModRecord
resolved naming rec = answered rec (map (asked_by naming) rec.items)

-- what the requests of a module in a folder of a tree name
abbrev pub named_in : Readings → Tree → Config → List ℕ → Naming
named_in readings tree config folder request kind = resolution_of readings.manifest tree config folder request kind

-- the record of a text, wherever it was taken from, as that of a file of the tree
abbrev pub text_record : Readings → Tree → Config → FileId → List ℕ → List ℕ → ModRecord
text_record readings tree config file path text =
    resolved (named_in readings tree config (parent_of path)) (parsed_record readings.json file path text)

-- the record of what a file gave
abbrev pub got_record : Readings → Tree → Config → FileId → List ℕ → ℕ → ReadGot → ModRecord
got_record readings tree config file path size (Whole text) = text_record readings tree config file path text
got_record readings tree config file path size TooLong = long_record file path size

abbrev pub record_at : Readings → Tree → Config → ℕ → List ℕ → ModRecord
record_at readings tree config number path =
    got_record readings tree config (file_id number) path (length_at (lengths_of tree) number) (read_of MAX_TEXT (unwrap_or (bytes_at tree path) []))

-- the record of the file with a number
unfoldable pub record_of : Readings → Tree → Config → ℕ → ModRecord
record_of readings tree config number = record_at readings tree config number (path_at (lengths_of tree) number)
