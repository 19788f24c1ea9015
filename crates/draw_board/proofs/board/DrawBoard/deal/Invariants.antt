use Rattle.std.proofs.Common.{◌≡◌, ◌-◌, [], length, replicate}
use Rattle.std.specs.List.{AllByRecursion}
use Rattle.board_seats.specs.Seats.{numbered}
use Rattle.draw_board.specs.Hands.{empty_hand}
use Rattle.draw_board.specs.Draws.{AreSeatsFrom, IsNewSeat}
use Rattle.draw_board.proofs.board.DrawBoard.deal.Given as goal

abbrev pub invariant-loop-number : goal.invariant-loop-number
invariant-loop-number l = record {
  table : l.rest.table_id ≡ l.self.table.shared.table_id;
  view : l.rest.me ≡ (numbered l.number (replicate (l.self.seats - l.number) (empty_hand l.self.len)), []);
  made : length l.dealt.items ≡ l.number;
  seats : AreSeatsFrom l.self 0 l.dealt.items;
  new : AllByRecursion IsNewSeat l.dealt.items;
}
