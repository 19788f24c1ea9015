-- The lists that the stats tell of a module, of a group and of a chunk (this project).
use Rattle.std.specs.Prelude.{ℕ, ◌==◌, Bool, List, map, filter_map, length, slice_get, slice_index_or, Option, None, if◌then◌else◌}
use Rattle.std.specs.List.{enumerate_from, filter, range_with_len, sum_by}
use Rattle.chunk_graph.specs.Chunks.{State, is_in}
use Rattle.chunk_graph.specs.Moves.{id_of}
use Rattle.pack_util.specs.declared.number.ChunkNo.{ChunkNo}
use Rattle.pack_util.specs.declared.number.GroupNo.{GroupNo}
use Rattle.pack_util.specs.declared.number.ModuleNo.{ModuleNo}
use Rattle.graph_types.specs.declared.block.Block.{Block}
use Rattle.graph_types.specs.declared.record.ModRecord.{ModRecord}
use Rattle.graph_types.specs.Edges.{blocks_of}
use Rattle.graph_types.specs.Modules.{module_no}

-- the group of a numbered block, where the block is the module's
abbrev pub group_loaded : List GroupNo → ℕ → ℕ × Block → Option GroupNo
group_loaded of_block m numbered = if numbered.1.module.0 == m then slice_get of_block numbered.0 else None

-- the groups that a module loads on demand, in the order of its blocks
abbrev pub loaded_groups : List GroupNo → List ModRecord → ℕ → List GroupNo
loaded_groups of_block records m = filter_map (group_loaded of_block m) (enumerate_from 0 (blocks_of records))

-- the ids of the chunks of a list
abbrev pub listed_ids : State → List ChunkNo → List ℕ
listed_ids s list = filter_map (λ c. id_of s c.0) list

-- the modules of a row, ascending
abbrev pub held_modules : List Bool → List ModuleNo
held_modules row = map module_no (filter (is_in row) (range_with_len 0 (length row)))

abbrev pub size_at : List ModRecord → ℕ → ℕ
size_at records m = slice_index_or (map (λ rec. rec.size) records) m 0

abbrev pub size_of_modules : List ModRecord → List ModuleNo → ℕ
size_of_modules records modules = sum_by (λ m. size_at records m.0) modules
