-- What is there whenever a group is loaded, and what therefore has to be placed in the group (this project).
use Rattle.std.specs.Prelude.{◌≡◌, ◌↔◌, ℕ, ◌<◌, ◌&&◌, not, List, [], length, slice_index_or, IsTrue}
use Rattle.bit_rows.specs.Places.{minus}
use Rattle.bit_rows.specs.Table.{Table}
use Rattle.graph_types.specs.declared.groups.GroupInfo.{GroupInfo}
use Rattle.graph_types.specs.Modules.{Graph}
use Rattle.chunk_groups.specs.Grouped.{net_of}
use Rattle.chunk_groups.specs.Net.{Net, Reaches}
use Rattle.chunk_groups.specs.Rows.{bit_in}
use Rattle.chunk_groups.specs.Serving.{IsThere, IsWithinReach, Placement, Holds, Serves}

-- every load history that ends with the group has an earlier member that reaches the module
abbrev pub IsAvailable : Net → ℕ → ℕ → Type 0
IsAvailable net g m = IsThere net (Reaches net) g m

-- the table has a row for each group with the modules that are available to it
pub record IsAvailableTable (graph : Graph) (infos : List GroupInfo) (table : Table) : Type 0 where
  pub rows : length table.rows ≡ length infos
  pub width : table.width ≡ length graph.records
  pub exact : (g m : ℕ) → g < length infos → m < length graph.records → IsTrue (bit_in table.rows g m) ↔ IsAvailable (net_of graph infos) g m

-- a group has what it reaches and what isn't available to it
abbrev pub placed_by : Placement → Placement → Placement
placed_by reach avail g m = reach g m && not (avail g m)

-- the placement serves, and each other that serves within reach holds at least as much in each group
pub record IsLeastServing (net : Net) (placed : Placement) : Type 0 where
  pub within : IsWithinReach net placed
  pub serves : Serves net placed
  pub least : (other : Placement) → IsWithinReach net other → Serves net other → (g m : ℕ) → Holds placed g m → Holds other g m

-- each row has what the group reaches without what is available to it
pub record IsPlacedTable (reach avail table : Table) : Type 0 where
  pub rows : length table.rows ≡ length reach.rows
  pub width : table.width ≡ reach.width
  pub placed : (g : ℕ) → g < length reach.rows → slice_index_or table.rows g [] ≡ minus (slice_index_or reach.rows g []) (slice_index_or avail.rows g [])
