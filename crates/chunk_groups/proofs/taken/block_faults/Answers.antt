use Rattle.chunk_groups.specs.NameFaults.{block_fault}
use Rattle.chunk_groups.proofs.Adding.{added}
use Rattle.chunk_groups.proofs.Standing.{stands-at}
use Rattle.chunk_groups.proofs.taken.block_faults.Goals as goal

pub block_fault-requires-clause-stands : goal.block_fault-requires-clause-stands
block_fault-requires-clause-stands c = stands-at c.args.graph.now.records c.blocks-block-items.result.now c.loop-block.block-index _ c.blocks-block-items.ensures c.loop-block-test.true

pub loop-block-preserved : goal.loop-block-preserved
loop-block-preserved c =
    added (block_fault c.args.graph.now.records c.args.entries.now) c.blocks-block-items.result.now c.loop-block.block-index _ c.loop-block-test.true _ _ _ c.in_ok-add_some.ensures c.loop-block.invariant c.in_ok-block_fault.ensures
