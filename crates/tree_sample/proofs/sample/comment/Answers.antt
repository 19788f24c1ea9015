use Rattle.std.proofs.Common.{rules}
use Rattle.tree_sample.specs.Sample.{comment}
use Rattle.tree_sample.proofs.sample.comment.Goals as goal

pub returns : goal.returns
unfolding comment
returns c = search rules
