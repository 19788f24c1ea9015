use Rattle.claim_board.proofs.Showing.{claims, owned}
use Rattle.claim_board.proofs.laws.claim_is_an_event.Goals as goal

pub returns-clause-free : goal.returns-clause-free
returns-clause-free c = λ files seats state board seat file token view room below free. claims files seats state board file below seat token view room free

pub returns-clause-owned : goal.returns-clause-owned
returns-clause-owned c = λ files seats state board seat file token view below ne. owned files seats state board file below seat token view ne
