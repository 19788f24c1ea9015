-- What the parts of the stats owe each other (this project).
use Rattle.std.specs.Prelude.{◌≡◌, ◌<◌, ◌≤◌, ◌^◌, List, length}
use Rattle.std.specs.List.{AllByRecursion}
use Rattle.chunk_graph.specs.Chunks.{State}
use Rattle.chunk_graph.specs.declared.split.Split.{Split}
use Rattle.pack_util.specs.declared.number.TheConstants.{MAX_TEXT}
use Rattle.graph_types.specs.declared.config.Config.{Config}
use Rattle.graph_types.specs.Edges.{blocks_of}
use Rattle.graph_types.specs.GroupList.{GroupList}
use Rattle.graph_types.specs.Modules.{Graph}

-- no module is too long, blocks can be numbered, each block has its group and each group its chunks, chunks have a place for each module, and each
-- split's cache group is one of the configuration
pub record BelongTogether (graph : Graph) (groups : GroupList) (chunks : State) (config : Config) (splits : List Split) : Type 0 where
  pub sizes : AllByRecursion (λ rec. rec.size ≤ MAX_TEXT) graph.records
  pub few_blocks : length (blocks_of graph.records) < 2 ^ 32
  pub blocks : length groups.of_block ≡ length (blocks_of graph.records)
  pub lists : length chunks.groups ≡ length groups.infos
  pub width : chunks.width ≡ length graph.records
  pub keys : AllByRecursion (λ split. split.cache_group < length config.cache_groups) splits
