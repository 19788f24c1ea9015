use Rattle.claim_board.proofs.Showing.{looks, takes_slot, tokens_alone}
use Rattle.claim_board.proofs.laws.other_steps_leave_the_state.Goals as goal

pub returns-clause-look : goal.returns-clause-look
returns-clause-look c = λ files seats state board file token view below. looks files seats state board file below token view

pub returns-clause-take : goal.returns-clause-take
returns-clause-take c = λ files seats state board seat file token view below is. takes_slot files seats state board file below seat token view is

pub returns-clause-tokens : goal.returns-clause-tokens
returns-clause-tokens c = tokens_alone
