-- The numbers by which a module's text names what it imports (this project).
use Rattle.std.specs.Prelude.{ℕ, ◌==◌, Bool, List, length, map, take, slice_index, count_by, Option, Some, None, option_and_then, if◌then◌else◌}
use Rattle.std.specs.List.{list_any, range_with_len}
use Rattle.pack_util.specs.declared.number.ModuleNo.{ModuleNo}
use Rattle.graph_types.specs.declared.binding.Star.{Star}
use Rattle.graph_types.specs.declared.item.Item.{Item}
use Rattle.graph_types.specs.declared.record.ModRecord.{ModRecord}
use Rattle.graph_types.specs.Modules.{module_of}
use Rattle.graph_types.specs.Whole.{declares}

-- how many imports and exports with a module's name stand before the item with this number
abbrev pub loads_before : List Item → ℕ → ℕ
loads_before items number = count_by (λ item. declares item.kind) (take number items)

-- for each item, how many stand before it
abbrev pub load_numbers : List Item → List ℕ
load_numbers items = map (loads_before items) (range_with_len 0 (length items))

-- the number of an import or an export with a module's name
abbrev pub load_number_of : List ℕ → ℕ × Item → Option ℕ
load_number_of numbers numbered = if declares numbered.1.kind then Some (slice_index numbers numbered.0) else None

-- an `export *` has the item with this number
abbrev pub is_starred : List Star → ℕ → Bool
is_starred stars number = list_any (λ star. star.item == number) stars

-- the module that an item names
abbrev pub target_of : List ModRecord → Item → Option ModuleNo
target_of records item = option_and_then (module_of records) item.target
