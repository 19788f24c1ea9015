use Rattle.split_chunks.specs.Rules.{claimed}
use Rattle.split_chunks.proofs.Exact.{split-kept, kept-split}
use Rattle.split_chunks.proofs.laws.rules_are_exact.Goals as goal

pub returns-clause-accepted : goal.returns-clause-accepted
returns-clause-accepted c = λ p s y e. (claimed p s y, split-kept p s y e)

pub returns-clause-complete : goal.returns-clause-complete
returns-clause-complete c = kept-split
