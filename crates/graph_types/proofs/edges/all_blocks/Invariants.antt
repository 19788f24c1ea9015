use Rattle.std.proofs.Common.{◌≡◌, take}
use Rattle.std.specs.Prelude.{flat_map}
use Rattle.std.specs.List.{enumerate_from}
use Rattle.graph_types.specs.Edges.{blocks_in}
use Rattle.graph_types.proofs.edges.all_blocks.Given as goal

abbrev pub invariant-loop-module : goal.invariant-loop-module
invariant-loop-module l = l.blocks.items ≡ flat_map (blocks_in l.records) (enumerate_from 0 (take l.module l.records))
