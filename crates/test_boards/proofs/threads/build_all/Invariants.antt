use Rattle.claim_board.specs.Claims.{IsSameSeat}
use Rattle.test_boards.proofs.threads.build_all.Given as goal

abbrev pub invariant-loop-step : goal.invariant-loop-step
invariant-loop-step l = IsSameSeat l.initial.seat l.seat
