use Rattle.std.proofs.Common.{[], length, ap, arith}
use Rattle.std.proofs.lemmas.List.{get_or_read}
use Rattle.split_plan.proofs.Places.{is_in-below}
use Rattle.split_plan.proofs.columns.add_chunk.Goals as goal

pub set-requires : goal.set-requires
set-requires c =
    let m = c.in-Some.module in
    let below = is_in-below c.args.mods.now m c.in-Some.ensures.is_true in
    let row = get_or_read c.loop-module.rows.items m _ (omega (arith, below, c.requires.width, c.loop-module.invariant.len)) c.index_mut-row.ensures.value [] in
    omega (arith, ap length row, c.loop-module.invariant.lens m, c.requires.len m (omega (arith, below, c.requires.width)))

pub overflow_add-at : goal.overflow_add-at
overflow_add-at c =
    let below = is_in-below c.args.mods.now c.in-Some.module c.in-Some.ensures.is_true in
    omega (arith, below, c.len-width.ensures)
