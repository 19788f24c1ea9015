use Rattle.std.proofs.Common.{◌==◌, length, ap, ◌∙◌}
use Rattle.std.proofs.lemmas.Bool.{false≢true}
use Rattle.split_plan.specs.Plan.{plan_of}
use Rattle.split_plan.proofs.GreatestOf.{greatest_first, greatest_more}
use Rattle.split_plan.proofs.greatest.greatest_place.Goals as goal

pub loop-place-preserved : goal.loop-place-preserved
loop-place-preserved c = greatest_more (plan_of c.args.graph.now c.args.config.now) c.args.list.now c.loop-place.best c.loop-place.place c.greater_of-best.result c.loop-place.invariant c.loop-place-test.true c.greater_of-best.ensures

pub loop-place-init : goal.loop-place-init
loop-place-init c = greatest_first (plan_of c.args.graph.now c.args.config.now) c.args.list.now (λ e. false≢true (c.if-is_empty.ensures ∙ ap (λ list. length list == 0) e))
