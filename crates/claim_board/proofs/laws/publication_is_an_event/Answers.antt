use Rattle.claim_board.proofs.Showing.{publishes}
use Rattle.claim_board.proofs.laws.publication_is_an_event.Goals as goal

pub returns : goal.returns
returns c = λ files seats state board seat file token rec view below is. publishes files seats state board file below seat token rec view is
