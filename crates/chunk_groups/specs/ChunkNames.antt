-- The names that blocks give to the chunks that they load (webpack, "Module Methods", `webpackChunkName`).
use Rattle.std.specs.Prelude.{ℕ, List, map, slice_get, filter_map, Option, option_map, option_and_then}
use Rattle.std.specs.Cmp.Lexicographic.{slice_cmp}
use Rattle.std.specs.FinMap.{from_entries, keys}
use Rattle.std.specs.Ordering.{nat_cmp}
use Rattle.graph_types.specs.declared.block.Block.{Block}
use Rattle.graph_types.specs.declared.item.Item.{Item}
use Rattle.graph_types.specs.declared.record.ModRecord.{ModRecord}
use Rattle.graph_types.specs.Edges.{blocks_of}

-- the item that a block is, with the record of its module
abbrev pub item_of : List ModRecord → Block → Option (ModRecord × Item)
item_of records block =
    option_and_then (λ rec. option_map (λ item. (rec, item)) (slice_get rec.items block.item)) (slice_get records block.«module».0)

abbrev pub chunk_name_of : List ModRecord → Block → Option (List ℕ)
chunk_name_of records block = option_and_then (λ found. found.1.chunk_name) (item_of records block)

-- each name once, in the order of their bytes: the keys of a map
abbrev pub each_once : List (List ℕ) → List (List ℕ)
each_once names = keys (from_entries {X = Unit {0}} {R = slice_cmp nat_cmp} (map (λ name. (name, tt)) names))

-- the names of all blocks
abbrev pub chunk_names : List ModRecord → List (List ℕ)
chunk_names records = each_once (filter_map (chunk_name_of records) (blocks_of records))
