use Rattle.std.proofs.Common.{◌≡◌, ◌+◌, length}
use Rattle.std.specs.Vec.Iter.{into_iter_items}
use Rattle.claim_board.specs.Claims.{AreSeatsFrom}
use Rattle.test_boards.proofs.threads.work.Given as goal

abbrev pub invariant-loop-seat : goal.invariant-loop-seat
invariant-loop-seat l = record {
  number : l.number ≡ l.from + length l.done.seats.items;
  done : AreSeatsFrom l.board l.from l.done.seats.items;
  left : AreSeatsFrom l.board l.number (into_iter_items l.seat-iterator);
  all : length l.done.seats.items + length (into_iter_items l.seat-iterator) ≡ length l.fn.seats.items;
}
