use Rattle.std.proofs.Common.{rules, ap, ◌∙◌}
use Rattle.tree_sample.specs.Sample.{sample_to}
use Rattle.tree_sample.proofs.sample.whole.Goals as goal

pub returns : goal.returns
returns c = c.loop-i.invariant ∙ ap (sample_to c.args.n) (search rules)
