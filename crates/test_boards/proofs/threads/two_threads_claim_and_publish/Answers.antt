use Rattle.test_boards.proofs.Halves.{both_halves, first_half, second_half}
use Rattle.test_boards.proofs.threads.two_threads_claim_and_publish.Goals as goal

pub work_both-requires-clause-first : goal.work_both-requires-clause-first
work_both-requires-clause-first g c κs =
    let new = c.in_ok-board.ensures in
    first_half c.in_ok-board.board c.in_ok-board.first.items _ new.all new.seats_are c.in_ok-second.ensures.items

pub work_both-requires-clause-second : goal.work_both-requires-clause-second
work_both-requires-clause-second g c κs =
    let new = c.in_ok-board.ensures in
    second_half c.in_ok-board.board c.in_ok-board.first.items _ new.all new.seats_are c.in_ok-second.ensures.tail

pub close-requires : goal.close-requires
close-requires g c =
    let done = c.in_ok-one.ensures in
    both_halves c.in_ok-board.board c.in_ok-one.one.seats.items c.in_ok-one.other.seats.items _ c.in_ok-board.ensures.seats_are c.in_ok-append.ensures.items done.0 done.1 done.2 done.3
