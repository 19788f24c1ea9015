use Rattle.split_plan.proofs.Plans.{plan_sound}
use Rattle.split_plan.proofs.plan.SplitPlan.new.Goals as goal

pub invariant_of-result : goal.invariant_of-result
invariant_of-result c =
    rw c.in_ok-sizes.ensures (rw c.in_ok-rules.ensures (rw c.as_slice.ensures (plan_sound c.args.graph.now.records c.args.config.now.cache_groups c.args.config.now.few_groups c.args.config.now.counted c.requires.small)))
