use Rattle.std.proofs.Common.{◌+◌, ap, ◌∙◌, arith}
use Rattle.chunk_graph.specs.Moves.{id_of}
use Rattle.chunk_graph.proofs.Lists.{push_range}
use Rattle.module_code.proofs.IdTable.{counted_more, weight_of}
use Rattle.module_code.proofs.id_table.all_ids.Goals as goal

pub loop-c-preserved : goal.loop-c-preserved
loop-c-preserved c =
    let state = c.args.chunks.now in
    let place = c.loop-c.c in
    let listed = push_range (id_of state) _ _ place _ c.in_ok-push.ensures.items c.loop-c.invariant.0 c.id_after-id.ensures in
    let counted = c.count_with-before.ensures ∙ ap (λ id. c.loop-c.before + weight_of id) c.id_after-id.ensures
    ∙ counted_more state place c.loop-c.before (omega (arith, c.loop-c-test.true, c.count-c-end.ensures.count)) c.loop-c.invariant.1 in
    (listed, counted)
