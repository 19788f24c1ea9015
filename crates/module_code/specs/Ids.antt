-- The ids by which the emitted texts name modules and chunks (webpack, optimization.moduleIds; the forms are this project's).
use Rattle.std.specs.Prelude.{ℕ, Bool, List, ◌++◌, map, slice_get, codes, decimal, filter_map, if◌then◌else◌}
use Rattle.std.specs.Option.{option_map_or}
use Rattle.chunk_graph.specs.Chunks.{State}
use Rattle.chunk_graph.specs.Moves.{id_of}
use Rattle.pack_util.specs.declared.number.ChunkNo.{ChunkNo}
use Rattle.graph_types.specs.declared.item.Item.{Item}
use Rattle.graph_types.specs.declared.record.ModRecord.{ModRecord}
use Rattle.module_code.specs.Numbers.{target_of}
use Rattle.module_code.specs.Quoted.{quoted_text, with_commas}
use Rattle.module_code.specs.View.{Sealing}

-- the path of the module with this number, where one has it
abbrev pub path_of : List ModRecord → ℕ → List ℕ
path_of records number = option_map_or (λ rec. rec.path) (slice_get records number) (codes "")

-- the module's number, or where ids are names the JSON string of `./` and the path
abbrev pub module_id : Bool → List ModRecord → ℕ → List ℕ
module_id named records number = if named then quoted_text (codes "./" ++ path_of records number) else decimal number

abbrev pub id_text : Sealing → ℕ → List ℕ
id_text view number = module_id view.config.named_ids view.graph.records number

-- the id of the module that an item names. Where there are no faults, only a `require` names none: 0 stands for any
abbrev pub target_id : Sealing → Item → List ℕ
target_id view item = option_map_or (λ target. id_text view target.0) (target_of view.graph.records item) (codes "0")

-- the ids of the chunks of a list, in order
abbrev pub chunk_ids : State → List ChunkNo → List ℕ
chunk_ids state list = filter_map (λ c. id_of state c.0) list

-- ids in decimal, with a comma between each two
abbrev pub ids_text : List ℕ → List ℕ
ids_text ids = with_commas (map decimal ids)
