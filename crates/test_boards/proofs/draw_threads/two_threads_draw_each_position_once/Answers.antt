use Rattle.test_boards.proofs.DrawHalves.{both_halves, first_half, new_first, new_second, second_half}
use Rattle.test_boards.proofs.draw_threads.two_threads_draw_each_position_once.Goals as goal

pub draw_both-requires-clause-first : goal.draw_both-requires-clause-first
draw_both-requires-clause-first g c κs =
    let new = c.in_ok-board.ensures in
    let half = first_half c.in_ok-board.board c.in_ok-board.first.items _ new.all new.seats_are c.in_ok-second.ensures.items in
    (half.0, half.1, new_first c.in_ok-board.first.items _ new.new c.in_ok-second.ensures.items)

pub draw_both-requires-clause-second : goal.draw_both-requires-clause-second
draw_both-requires-clause-second g c κs =
    let new = c.in_ok-board.ensures in
    let half = second_half c.in_ok-board.board c.in_ok-board.first.items _ new.all new.seats_are c.in_ok-second.ensures.tail in
    (half.0, half.1, new_second c.in_ok-board.first.items _ new.new c.in_ok-second.ensures.tail)

pub close-requires : goal.close-requires
close-requires g c =
    let done = c.in_ok-one.ensures in
    both_halves c.in_ok-board.board c.in_ok-one.one.seats.items c.in_ok-one.other.seats.items _ c.in_ok-board.ensures.seats_are c.in_ok-append.ensures.items done.0 done.1 done.2 done.3
