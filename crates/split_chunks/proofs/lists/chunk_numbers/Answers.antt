use Rattle.std.proofs.Common.{◌+◌, ◌++◌, ◌∷◌, [], map, sym, ap, ◌∙◌, append-nil, append_assoc, arith}
use Rattle.chunk_graph.specs.Moves.{chunk_no}
use Rattle.split_plan.specs.inner.Rows.{places_from}
use Rattle.split_plan.proofs.Places.{is_in-below, from_next, from_none}
use Rattle.split_chunks.proofs.lists.chunk_numbers.Goals as goal

pub loop-place-preserved : goal.loop-place-preserved
loop-place-preserved c =
    let i = c.in-Some.place in
    let rest = map chunk_no (places_from (i + 1) c.args.row.now) in
    c.loop-place.invariant ∙ ap (λ l. c.loop-place.list.items ++ map chunk_no l) (from_next c.args.row.now c.loop-place.at i c.in-Some.ensures)
    ∙ sym (append_assoc c.loop-place.list.items (chunk_no i ∷ []) rest) ∙ ap (λ l. l ++ rest) (sym c.in_ok-push.ensures.items)

pub overflow_add-at : goal.overflow_add-at
overflow_add-at c = omega (arith, is_in-below c.args.row.now c.in-Some.place c.in-Some.ensures.is_true, c.len-len.ensures)

pub returns : goal.returns
returns c =
    c.from_vec.ensures ∙ sym (c.loop-place.invariant ∙ ap (λ l. c.loop-place.list.items ++ map chunk_no l) (from_none c.args.row.now c.loop-place.at c.in_default.ensures) ∙ append-nil c.loop-place.list.items)
