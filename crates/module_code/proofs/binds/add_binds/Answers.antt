use Rattle.module_code.specs.Binds.{bind_text}
use Rattle.module_code.proofs.Commas.{added-more}
use Rattle.module_code.proofs.binds.add_binds.Goals as goal

pub loop-place-preserved : goal.loop-place-preserved
loop-place-preserved c =
    added-more (bind_text c.args.numbers.now) _ _ _ c.loop-place-test.true c.index-binds-place.is _ _ _ _ c.loop-place.invariant c.in_ok-add_comma.ensures c.in_ok-add_bind.ensures
