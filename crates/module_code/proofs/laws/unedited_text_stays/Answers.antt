use Rattle.module_code.proofs.Edits.{put_back-drop}
use Rattle.module_code.proofs.laws.unedited_text_stays.Goals as goal

pub returns : goal.returns
returns c = λ text edits order. put_back-drop text 0 edits order
