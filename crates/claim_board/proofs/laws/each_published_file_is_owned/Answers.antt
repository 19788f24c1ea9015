use Rattle.claim_board.proofs.Showing.{owned_once_done}
use Rattle.claim_board.proofs.laws.each_published_file_is_owned.Goals as goal

pub returns : goal.returns
returns c = λ files seats state board file below is. owned_once_done files seats state board file below is
