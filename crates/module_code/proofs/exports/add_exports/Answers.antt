use Rattle.module_code.specs.Exports.{export_text}
use Rattle.module_code.proofs.Commas.{added-more}
use Rattle.module_code.proofs.exports.add_exports.Goals as goal

pub loop-place-preserved : goal.loop-place-preserved
loop-place-preserved c =
    added-more (export_text c.args.numbers.now) _ _ _ c.loop-place-test.true c.index-exports-place.is _ _ _ _ c.loop-place.invariant c.in_ok-add_comma.ensures c.in_ok-add_export.ensures
