use Rattle.chunk_graph.specs.Moves.{merged_into}
use Rattle.chunk_graph.proofs.Lists.{push_range}
use Rattle.chunk_graph.proofs.merging.all_merged_into.Goals as goal

pub loop-place-preserved : goal.loop-place-preserved
loop-place-preserved c =
    push_range (merged_into c.args.chunks.now) _ _ c.loop-place.place _ c.in_ok-push.ensures.items c.loop-place.invariant c.merged_into.ensures
