use Rattle.std.proofs.Common.{slice_set, ap, ◌∙◌, arith}
use Rattle.std.proofs.lemmas.List.Edits.{map_over_more}
use Rattle.chunk_graph.specs.Moves.{gone_if_empty}
use Rattle.chunk_graph.proofs.emptying.remove_empty.Goals as goal

pub loop-place-preserved : goal.loop-place-preserved
loop-place-preserved c =
    let k = c.loop-place.place in
    ap (λ chunk. slice_set c.loop-place.chunks.items k chunk) c.remove_if_empty.ensures
    ∙ map_over_more gone_if_empty c.args.chunks.now.items c.loop-place.chunks.items k c.index_mut.result.now (omega arith) c.loop-place.invariant c.index_mut.ensures.value
