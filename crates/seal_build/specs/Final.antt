-- The chunks of a build (this project): which modules the group of a chunk starts with, and the chunks after all splits.
use Rattle.std.specs.Prelude.{◌≡◌, ◌↔◌, ℕ, List, length, map, Option, if◌then◌else◌, IsTrue}
use Rattle.avail_sets.specs.Availability.{IsAvailable}
use Rattle.bit_rows.specs.Table.{Table, IsEven}
use Rattle.chunk_graph.specs.Chunks.{State}
use Rattle.chunk_graph.specs.Moves.{merged, started, without_empty}
use Rattle.chunk_graph.specs.declared.split.Split.{Split}
use Rattle.chunk_groups.specs.Grouped.{net_of}
use Rattle.chunk_groups.specs.Net.{Net, Reaches}
use Rattle.chunk_groups.specs.Rows.{bit_in}
use Rattle.graph_types.specs.declared.config.Config.{Config}
use Rattle.graph_types.specs.declared.groups.GroupInfo.{GroupInfo}
use Rattle.graph_types.specs.Modules.{Graph}
use Rattle.split_plan.specs.Plan.{plan_of}
use Rattle.split_plan.specs.Step.{AreSplits}

-- the group reaches the module, which isn't there already whenever the group is loaded
abbrev pub IsPlaced : Net → ℕ → ℕ → Type 0
IsPlaced net g m = Reaches net g m × (IsAvailable net g m → ⊥)

-- the table has a row for each group, with a place for each module, and exactly the placed ones are true
pub record ArePlaced (graph : Graph) (infos : List GroupInfo) (table : Table) : Type 0 where
  pub rows : length table.rows ≡ length infos
  pub width : table.width ≡ length graph.records
  pub even : IsEven table
  pub exact : (g m : ℕ) → IsTrue (bit_in table.rows g m) ↔ IsPlaced (net_of graph infos) g m

abbrev pub group_names : List GroupInfo → List (Option (List ℕ))
group_names infos = map (λ info. info.name) infos

-- one chunk for each group, and where the configuration says so, equal ones made one (webpack, optimization.mergeDuplicateChunks)
abbrev pub before_splits : Config → List GroupInfo → Table → State
before_splits config infos table =
    if config.merge_equal then merged (started table (length config.entries) (group_names infos)) else started table (length config.entries) (group_names infos)

-- where the configuration says so, without empty chunks (webpack, optimization.removeEmptyChunks)
abbrev pub after_splits : Config → State → State
after_splits config between = if config.drop_empty then without_empty between else between

-- the state to which all splits lead from the chunks of the groups
pub record IsFinal (graph : Graph) (config : Config) (infos : List GroupInfo) (splits : List Split) (final : State) : Type 0 where
  pub table : Table
  pub placed : ArePlaced graph infos table
  pub between : State
  pub are_splits : AreSplits (plan_of graph config) (before_splits config infos table) splits between
  pub is : final ≡ after_splits config between
