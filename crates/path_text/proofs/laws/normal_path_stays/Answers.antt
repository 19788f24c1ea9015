use Rattle.path_text.proofs.Children.{normal_of-normal}
use Rattle.path_text.proofs.laws.normal_path_stays.Goals as goal

pub returns : goal.returns
returns c = normal_of-normal
