use Rattle.std.proofs.Common.{slice_set, ap, ◌∙◌, arith}
use Rattle.std.proofs.lemmas.List.Edits.{map_over_more}
use Rattle.chunk_graph.specs.Moves.{needed}
use Rattle.chunk_graph.proofs.emptying.leave_out_empty.Goals as goal

pub loop-place-preserved : goal.loop-place-preserved
loop-place-preserved c =
    let k = c.loop-place.place in
    ap (λ list. slice_set c.loop-place.groups.items k list) c.leave_out_empty.ensures
    ∙ map_over_more (needed c.args.chunks.now) c.args.groups.now.items c.loop-place.groups.items k c.index_mut-group.result.now (omega arith) c.loop-place.invariant c.index_mut-group.ensures.value
