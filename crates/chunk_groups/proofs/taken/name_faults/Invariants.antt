use Rattle.std.proofs.Common.{◌≡◌, ◌++◌, take}
use Rattle.std.specs.Prelude.{filter_map}
use Rattle.graph_types.specs.Edges.{blocks_of}
use Rattle.chunk_groups.specs.NameFaults.{block_fault, cache_group_fault}
use Rattle.chunk_groups.proofs.taken.name_faults.Given as goal

abbrev pub invariant-loop-group : goal.invariant-loop-group
invariant-loop-group l = l.faults.items ≡ filter_map (block_fault l.graph.records l.config.entries) (blocks_of l.graph.records)
    ++ filter_map (cache_group_fault l.config_path l.config.entries l.names) (take l.group-index l.group-items)
