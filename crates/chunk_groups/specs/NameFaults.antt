-- Names that are taken (this project): an entry's chunk isn't loaded on demand, and a cache group's chunk is no other chunk.
use Rattle.std.specs.Prelude.{ℕ, Bool, ◌||◌, List, ◌++◌, filter_map, Option, Some, None, option_and_then, if◌then◌else◌, bytes_eq}
use Rattle.std.specs.List.{list_any}
use Rattle.fault_place.specs.declared.fault.Fault.{Fault}
use Rattle.fault_place.specs.declared.fault.FaultKind.TheVariants.{EntryOnDemand, GroupName}
use Rattle.fault_place.specs.declared.place.Spot.{Spot}
use Rattle.fault_place.specs.declared.place.Place.{Place}
use Rattle.fault_place.specs.Place.{place_in}
use Rattle.graph_types.specs.declared.block.Block.{Block}
use Rattle.graph_types.specs.declared.cache_group.CacheGroup.{CacheGroup}
use Rattle.graph_types.specs.declared.entry.EntrySpec.{EntrySpec}
use Rattle.graph_types.specs.declared.item.Item.{Item}
use Rattle.graph_types.specs.declared.record.ModRecord.{ModRecord}
use Rattle.graph_types.specs.Edges.{blocks_of}
use Rattle.chunk_groups.specs.ChunkNames.{chunk_names, item_of}

abbrev pub is_entry_name : List EntrySpec → List ℕ → Bool
is_entry_name entries name = list_any (λ entry. bytes_eq entry.name name) entries

-- at the request's quote
abbrev pub entry_on_demand : ModRecord → Item → List ℕ → Fault
entry_on_demand rec item name = record { place = place_in rec.path rec.text item.at; kind = EntryOnDemand; detail = name }

-- of a block whose chunk has an entry's name
abbrev pub block_fault : List ModRecord → List EntrySpec → Block → Option Fault
block_fault records entries block =
    option_and_then (λ found. option_and_then (λ name. if is_entry_name entries name then Some (entry_on_demand found.0 found.1 name) else None) found.1.chunk_name) (item_of records block)

-- the place of a spot in the configuration
abbrev pub place_at : List ℕ → Spot → Place
place_at path spot = record { path = path; offset = spot.offset; line = spot.line; column = spot.column }

abbrev pub name_taken : List ℕ → Spot → List ℕ → Fault
name_taken path spot name = record { place = place_at path spot; kind = GroupName; detail = name }

-- an entry or a block has the name
abbrev pub is_taken : List EntrySpec → List (List ℕ) → List ℕ → Bool
is_taken entries names name = is_entry_name entries name || list_any (λ other. bytes_eq other name) names

abbrev pub cache_group_fault : List ℕ → List EntrySpec → List (List ℕ) → CacheGroup → Option Fault
cache_group_fault path entries names group =
    option_and_then (λ name. if is_taken entries names name then Some (name_taken path group.name_at name) else None) group.name

abbrev pub name_faults : List ModRecord → List EntrySpec → List CacheGroup → List ℕ → List Fault
name_faults records entries cache_groups path =
    filter_map (block_fault records entries) (blocks_of records) ++ filter_map (cache_group_fault path entries (chunk_names records)) cache_groups
