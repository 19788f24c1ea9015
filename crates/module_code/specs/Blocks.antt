-- What is loaded on demand, and with which chunks (webpack, AsyncDependenciesBlock).
use Rattle.std.specs.Prelude.{ℕ, ◌==◌, ◌&&◌, Bool, List, position, slice_get, Option}
use Rattle.std.specs.Option.{option_map_or}
use Rattle.chunk_graph.specs.Chunks.{group_at}
use Rattle.pack_util.specs.declared.number.ChunkNo.{ChunkNo}
use Rattle.graph_types.specs.Edges.{blocks_of}
use Rattle.graph_types.specs.declared.block.Block.{Block}
use Rattle.graph_types.specs.declared.record.ModRecord.{ModRecord}
use Rattle.module_code.specs.View.{Sealing}

-- the block is the item with this number of the module with that number
abbrev pub is_block_of : ℕ → ℕ → Block → Bool
is_block_of number item block = block.«module».0 == number && block.item == item

-- the number of the block that an item is, where it is one: the block's place among all
abbrev pub block_at : List ModRecord → ℕ → ℕ → Option ℕ
block_at records number item = position (is_block_of number item) (blocks_of records)

-- the group that a block loads
abbrev pub group_of_block : Sealing → ℕ → ℕ
group_of_block view block = option_map_or (λ group. group.0) (slice_get view.groups.of_block block) 0

-- the chunks that a block loads
abbrev pub chunks_of_block : Sealing → ℕ → List ChunkNo
chunks_of_block view block = group_at view.chunks (group_of_block view block)
