use Rattle.std.proofs.Common.{◌≡◌, ◌++◌, take}
use Rattle.std.specs.Prelude.{filter_map}
use Rattle.std.specs.List.{enumerate_from}
use Rattle.graph_types.specs.Edges.{block_of}
use Rattle.graph_types.proofs.edges.add_blocks.Given as goal

abbrev pub invariant-loop-number : goal.invariant-loop-number
invariant-loop-number l = l.blocks.items ≡ l.fn.blocks.items ++ filter_map (block_of l.records l.module) (enumerate_from 0 (take l.number l.item-items))
