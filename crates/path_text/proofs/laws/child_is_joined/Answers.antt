use Rattle.path_text.proofs.Children.{join_of-segment}
use Rattle.path_text.proofs.laws.child_is_joined.Goals as goal

pub returns : goal.returns
returns c = join_of-segment
