use Rattle.path_text.proofs.Children.{parent_of-child}
use Rattle.path_text.proofs.laws.child_has_parent.Goals as goal

pub returns : goal.returns
returns c = parent_of-child
