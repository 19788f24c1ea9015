use Rattle.std.proofs.Common.{◌∷◌, []}
use Rattle.chunk_graph.specs.Moves.{chunk_no}
use Rattle.chunk_graph.proofs.Lists.{push_range}
use Rattle.chunk_graph.proofs.starting.first_lists.Goals as goal

pub loop-group-preserved : goal.loop-group-preserved
loop-group-preserved c =
    push_range (λ g. chunk_no g ∷ []) _ _ c.loop-group.group _ c.in_ok-push.ensures.items c.loop-group.invariant c.in_ok-of_one.ensures
