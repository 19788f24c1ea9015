use Rattle.path_text.proofs.Children.{child_of-normal}
use Rattle.path_text.proofs.laws.child_is_normal.Goals as goal

pub returns : goal.returns
returns c = child_of-normal
