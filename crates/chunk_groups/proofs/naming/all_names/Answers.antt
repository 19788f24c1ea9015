use Rattle.chunk_groups.specs.ChunkNames.{chunk_name_of}
use Rattle.chunk_groups.proofs.Adding.{added}
use Rattle.chunk_groups.proofs.Standing.{stands-at}
use Rattle.chunk_groups.proofs.naming.all_names.Goals as goal

pub own_name-requires : goal.own_name-requires
own_name-requires c = stands-at c.args.graph.now.records c.blocks-block-items.result.now c.loop-block.block-index _ c.blocks-block-items.ensures c.loop-block-test.true

pub loop-block-preserved : goal.loop-block-preserved
loop-block-preserved c =
    added (chunk_name_of c.args.graph.now.records) c.blocks-block-items.result.now c.loop-block.block-index _ c.loop-block-test.true _ _ _ c.in_ok-add_some.ensures c.loop-block.invariant c.in_ok-own_name.ensures
