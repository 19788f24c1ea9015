-- The files that a record names (this project), at once or on demand.
use Rattle.std.specs.Prelude.{ℕ, List, filter_map, Option, option_map}
use Rattle.graph_types.specs.declared.item.Item.{Item}
use Rattle.graph_types.specs.declared.record.ModRecord.{ModRecord}

abbrev pub item_target : Item → Option ℕ
item_target item = option_map (λ file. file.0) item.target

-- the files that a record's items name, of every kind
abbrev pub targets_of : ModRecord → List ℕ
targets_of rec = filter_map item_target rec.items

-- the files that a file's record names
abbrev pub targets_by : (ℕ → ModRecord) → ℕ → List ℕ
targets_by record_of file = targets_of (record_of file)
