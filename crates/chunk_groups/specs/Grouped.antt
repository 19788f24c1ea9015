-- The net of a module graph and its groups (this project).
use Rattle.std.specs.Prelude.{◌≡◌, ◌↔◌, ℕ, ◌<◌, List, [], length, map, slice_index_or, None, is_some, All, IsTrue}
use Rattle.bit_rows.specs.Table.{Table}
use Rattle.pack_util.specs.declared.number.ModuleNo.{ModuleNo}
use Rattle.graph_types.specs.declared.block.Block.{Block}
use Rattle.graph_types.specs.declared.groups.GroupInfo.{GroupInfo}
use Rattle.graph_types.specs.declared.record.ModRecord.{ModRecord}
use Rattle.graph_types.specs.Edges.{blocks_of, sync_targets_of}
use Rattle.graph_types.specs.Modules.{Graph, module_no}
use Rattle.chunk_groups.specs.Net.{Net, Reaches}
use Rattle.chunk_groups.specs.Rows.{bit_in}

abbrev pub numbers : List ModuleNo → List ℕ
numbers modules = map (λ m. m.0) modules

-- the modules that the module of a number needs at once
abbrev pub targets_at : List ModRecord → ℕ → List ℕ
targets_at records m = numbers (slice_index_or (map (sync_targets_of records) records) m [])

abbrev pub no_group : GroupInfo
no_group = record { entry = None; name = None; roots = []; blocks = [] }

abbrev pub info_at : List GroupInfo → ℕ → GroupInfo
info_at infos g = slice_index_or infos g no_group

abbrev pub no_block : Block
no_block = record { «module» = module_no 0; item = 0; target = module_no 0 }

-- the module in which the block of a number stands
abbrev pub home_of : List Block → ℕ → ℕ
home_of blocks b = (slice_index_or blocks b no_block).«module».0

abbrev pub net_of : Graph → List GroupInfo → Net
net_of graph infos = record {
  groups = length infos;
  is_entry = λ g. is_some (info_at infos g).entry;
  roots = λ g. numbers (info_at infos g).roots;
  homes = λ g. map (home_of (blocks_of graph.records)) (info_at infos g).blocks;
  targets = targets_at graph.records;
}

-- the group speaks of modules and blocks of the graph
pub record IsOver (graph : Graph) (info : GroupInfo) : Type 0 where
  pub roots : All (λ m. m.0 < length graph.records) info.roots
  pub blocks : All (λ b. b < length (blocks_of graph.records)) info.blocks

-- the groups are those of a graph as far as numbers go
abbrev pub AreGroupsOver : Graph → List GroupInfo → Type 0
AreGroupsOver graph infos = All (IsOver graph) infos

-- the table has a row for each group with the modules that it reaches
pub record IsReach (graph : Graph) (infos : List GroupInfo) (table : Table) : Type 0 where
  pub rows : length table.rows ≡ length infos
  pub width : table.width ≡ length graph.records
  pub exact : (g m : ℕ) → IsTrue (bit_in table.rows g m) ↔ Reaches (net_of graph infos) g m
