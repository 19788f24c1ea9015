use Rattle.std.proofs.Common.{◌≡◌, ◌+◌, length}
use Rattle.std.specs.List.{AllByRecursion}
use Rattle.std.specs.Vec.Iter.{into_iter_items}
use Rattle.draw_board.specs.Draws.{AreSeatsFrom, IsNewSeat}
use Rattle.test_boards.proofs.draw_threads.draw.Given as goal

abbrev pub invariant-loop-seat : goal.invariant-loop-seat
invariant-loop-seat l = record {
  done : AreSeatsFrom l.board l.from l.done.seats.items;
  left : AreSeatsFrom l.board (l.from + length l.done.seats.items) (into_iter_items l.seat-iterator);
  new : AllByRecursion IsNewSeat (into_iter_items l.seat-iterator);
  all : length l.done.seats.items + length (into_iter_items l.seat-iterator) ≡ length l.fn.seats.items;
}
