use Rattle.std.proofs.Common.{◌≡◌, take}
use Rattle.std.specs.Prelude.{filter_map}
use Rattle.chunk_groups.specs.NameFaults.{block_fault}
use Rattle.chunk_groups.proofs.taken.block_faults.Given as goal

abbrev pub invariant-loop-block : goal.invariant-loop-block
invariant-loop-block l = l.faults.items ≡ filter_map (block_fault l.graph.records l.entries) (take l.block-index l.block-items)
