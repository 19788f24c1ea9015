-- What the texts of a build are made from (this project).
use Rattle.std.specs.Prelude.{◌≡◌, ◌<◌, ◌^◌, length}
use Rattle.std.specs.List.{AllByRecursion}
use Rattle.chunk_graph.specs.Chunks.{State}
use Rattle.graph_types.specs.declared.config.Config.{Config}
use Rattle.graph_types.specs.Edges.{blocks_of}
use Rattle.graph_types.specs.GroupList.{GroupList}
use Rattle.graph_types.specs.Modules.{Graph}
use Rattle.graph_types.specs.Whole.{IsWhole}

-- the modules, their chunk groups, the chunks of these, and how to build
pub record Sealing : Type 0 where
  pub graph : Graph
  pub groups : GroupList
  pub chunks : State
  pub config : Config

-- the parts belong together
pub record IsSealing (view : Sealing) : Type 0 where
  pub whole : AllByRecursion IsWhole view.graph.records
  pub few_blocks : length (blocks_of view.graph.records) < 2 ^ 32
  pub blocks : length view.groups.of_block ≡ length (blocks_of view.graph.records)
  pub groups : AllByRecursion (λ g. g.0 < length view.chunks.groups) view.groups.of_block
  pub lists : length view.chunks.groups ≡ length view.groups.infos
  pub width : view.chunks.width ≡ length view.graph.records
