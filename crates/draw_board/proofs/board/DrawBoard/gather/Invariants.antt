use Rattle.std.proofs.Common.{◌≡◌, ℕ, [], ◌++◌, map}
use Rattle.std.specs.Vec.Iter.{into_iter_items}
use Rattle.board_seats.specs.Seats.{numbered}
use Rattle.draw_board.specs.Draws.{AreSeatsFrom, hand_of}
use Rattle.draw_board.proofs.board.DrawBoard.gather.Given as goal

-- the token stands for the seats before the next one
abbrev pub invariant-loop-seat : goal.invariant-loop-seat
invariant-loop-seat l = record {
  table : l.all.table_id ≡ l.self.table.shared.table_id;
  idle : l.all.me.1 ≡ [];
  next : ℕ;
  left : AreSeatsFrom l.self next (into_iter_items l.seat-iterator);
  whole : numbered 0 (map hand_of l.fn.seats.items) ≡ l.all.me.0 ++ numbered next (map hand_of (into_iter_items l.seat-iterator));
}
