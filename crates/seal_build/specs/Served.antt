-- What an Ok answer of `seal` brings to a page (this project).
use Rattle.std.specs.Prelude.{◌≡◌, ℕ, List, length, Ok}
use Rattle.chunk_graph.specs.Chunks.{State, has_module}
use Rattle.chunk_graph.specs.declared.split.Split.{Split}
use Rattle.chunk_groups.specs.Answer.{groups_or_end}
use Rattle.chunk_groups.specs.ChunkGroups.{TellsGroups}
use Rattle.chunk_groups.specs.Grouped.{net_of}
use Rattle.chunk_groups.specs.Serving.{Serves}
use Rattle.pack_util.specs.declared.number.GroupNo.{GroupNo}
use Rattle.graph_types.specs.declared.config.Config.{Config}
use Rattle.graph_types.specs.declared.groups.GroupInfo.{GroupInfo}
use Rattle.graph_types.specs.Edges.{blocks_of}
use Rattle.graph_types.specs.Modules.{Graph}
use Rattle.seal_build.specs.Final.{IsFinal}
use Rattle.seal_build.specs.Seal.{sealed_of, sealing}
use Rattle.seal_build.specs.declared.sealed.Sealed.{Sealed}

-- the assets and the stats are those of the final chunks of the graph's groups, and these chunks serve: along each load
-- history, each module that a group reaches is in a chunk of that group or of an earlier one
pub record IsServed (graph : Graph) (config : Config) (path : List ℕ) (sealed : Sealed) : Type 0 where
  pub infos : List GroupInfo
  pub are_groups : groups_or_end graph config.entries config.cache_groups path ≡ Ok infos
  pub of_block : List GroupNo
  pub tells : TellsGroups (length (blocks_of graph.records)) (record { infos = infos; of_block = of_block })
  pub splits : List Split
  pub final : State
  pub is_final : IsFinal graph config infos splits final
  pub serves : Serves (net_of graph infos) (has_module final)
  pub is : sealed ≡ sealed_of (sealing graph config infos of_block final) splits
