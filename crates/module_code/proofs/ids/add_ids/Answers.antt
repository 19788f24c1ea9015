use Rattle.std.proofs.Common.{decimal}
use Rattle.module_code.proofs.Commas.{added-at}
use Rattle.module_code.proofs.ids.add_ids.Goals as goal

pub loop-place-preserved : goal.loop-place-preserved
loop-place-preserved c =
    added-at decimal c.args.ids.now c.loop-place.place 0 c.loop-place-test.true _ _ _ _ c.loop-place.invariant c.in_ok-add_comma.ensures c.in_ok-add_number.ensures
