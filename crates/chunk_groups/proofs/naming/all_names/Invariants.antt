use Rattle.std.proofs.Common.{◌≡◌, take}
use Rattle.std.specs.Prelude.{filter_map}
use Rattle.chunk_groups.specs.ChunkNames.{chunk_name_of}
use Rattle.chunk_groups.proofs.naming.all_names.Given as goal

abbrev pub invariant-loop-block : goal.invariant-loop-block
invariant-loop-block l = l.names.items ≡ filter_map (chunk_name_of l.graph.records) (take l.block-index l.block-items)
