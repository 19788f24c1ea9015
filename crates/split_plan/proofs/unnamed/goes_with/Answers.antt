use Rattle.std.proofs.Common.{◌&&◌, ap, ◌∙◌}
use Rattle.split_plan.specs.Candidates.{lies_in}
use Rattle.split_plan.proofs.Sets.{subset_test}
use Rattle.split_plan.proofs.unnamed.goes_with.Goals as goal

pub returns-then-get : goal.returns-then-get
returns-then-get c = subset_test _ c.args.set.now c.args.share.now c.is_subset.ensures ∙ ap (λ b. b && lies_in c.args.set.now c.args.share.now) c.if-get.ensures
