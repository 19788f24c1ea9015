use Rattle.std.proofs.Common.{◌≡◌, ◌-◌, false}
use Rattle.draw_board.specs.Draws.{IsSameSeat, above, board_len, drawn, has_drawn_none}
use Rattle.test_boards.proofs.draw_threads.draw_all.Given as goal

abbrev pub invariant-loop-position : goal.invariant-loop-position
invariant-loop-position l = IsSameSeat l.initial.seat l.seat × (has_drawn_none l.seat ≡ false)

abbrev pub decreases-loop-position : goal.decreases-loop-position
decreases-loop-position l = board_len l.board - above (drawn l.seat)
