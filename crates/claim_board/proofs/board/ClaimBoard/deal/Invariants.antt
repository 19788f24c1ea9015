use Rattle.std.proofs.Common.{◌≡◌, ◌-◌, [], length, replicate}
use Rattle.std.specs.List.{AllByRecursion}
use Rattle.board_seats.specs.Seats.{numbered}
use Rattle.claim_board.specs.Lists.{empty_lists}
use Rattle.claim_board.specs.Claims.{AreSeatsFrom, lists_of}
use Rattle.claim_board.proofs.board.ClaimBoard.deal.Given as goal

abbrev pub invariant-loop-number : goal.invariant-loop-number
invariant-loop-number l = record {
  table : l.rest.table_id ≡ l.self.table.shared.table_id;
  view : l.rest.me ≡ (numbered l.number (replicate (l.self.seats - l.number) empty_lists), []);
  made : length l.dealt.items ≡ l.number;
  seats : AreSeatsFrom l.self 0 l.dealt.items;
  new : AllByRecursion (λ seat. lists_of seat ≡ empty_lists) l.dealt.items;
}
