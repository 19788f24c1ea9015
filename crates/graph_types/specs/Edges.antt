-- What leads from one module to another (this project): at once, or on demand.
use Rattle.std.specs.Prelude.{ℕ, ◌<◌, ◌^◌, Bool, true, false, List, length, flat_map, filter_map, Option, None, option_map, option_and_then, if◌then◌else◌}
use Rattle.std.specs.List.{enumerate_from}
use Rattle.pack_util.specs.declared.number.ModuleNo.{ModuleNo}
use Rattle.graph_types.specs.declared.block.Block.{Block}
use Rattle.graph_types.specs.declared.item.Item.{Item}
use Rattle.graph_types.specs.declared.item.ItemKind.{ItemKind}
use Rattle.graph_types.specs.declared.item.ItemKind.TheVariants.{Import, ExportFrom, Require, Lazy, Eager}
use Rattle.graph_types.specs.declared.record.ModRecord.{ModRecord}
use Rattle.graph_types.specs.Modules.{module_of, module_no}

-- the target is loaded on demand
abbrev pub is_lazy : ItemKind → Bool
is_lazy Import = false
is_lazy ExportFrom = false
is_lazy Require = false
is_lazy Lazy = true
is_lazy Eager = false

-- the module that an item needs at once
abbrev pub sync_target : List ModRecord → Item → Option ModuleNo
sync_target records item = if is_lazy item.kind then None else option_and_then (module_of records) item.target

-- the modules that a module needs at once, by the places of its items
abbrev pub sync_targets_of : List ModRecord → ModRecord → List ModuleNo
sync_targets_of records rec = filter_map (sync_target records) rec.items

-- the block that an item is, by the number of its module and its own
abbrev pub block_of : List ModRecord → ℕ → ℕ × Item → Option Block
block_of records place numbered =
    if is_lazy numbered.1.kind
    then option_map (λ target. record { «module» = module_no place; item = numbered.0; target = target }) (option_and_then (module_of records) numbered.1.target)
    else None

abbrev pub blocks_in : List ModRecord → ℕ × ModRecord → List Block
blocks_in records numbered = filter_map (block_of records numbered.0) (enumerate_from 0 numbered.1.items)

-- all blocks, by module and item
abbrev pub blocks_of : List ModRecord → List Block
blocks_of records = flat_map (blocks_in records) (enumerate_from 0 records)

-- a record whose items can be numbered
abbrev pub HasFewItems : ModRecord → Type 0
HasFewItems rec = length rec.items < 2 ^ 32
