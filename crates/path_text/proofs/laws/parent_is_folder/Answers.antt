use Rattle.path_text.proofs.Children.{parent_of-normal}
use Rattle.path_text.proofs.laws.parent_is_folder.Goals as goal

pub returns : goal.returns
returns c = parent_of-normal
