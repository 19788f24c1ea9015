use Rattle.std.proofs.Common.{rules, ◌≡◌, ℕ, suc, List, ◌++◌, length, map, sym, ap, subst, ◌∙◌}
use Rattle.std.specs.Vec.Iter.{into_iter_items}
use Rattle.atomic_table.specs.Table.{Me}
use Rattle.board_seats.specs.Seats.{numbered}
use Rattle.board_seats.proofs.Steps.{enters, joins}
use Rattle.draw_board.specs.declared.hand.Hand.{Hand}
use Rattle.draw_board.specs.declared.seat.DrawSeat.{DrawSeat}
use Rattle.draw_board.specs.Draws.{AreSeatsFrom, hand_of}
use Rattle.draw_board.proofs.Closing.{gathered, all_gathered}
use Rattle.draw_board.proofs.board.DrawBoard.gather.Goals as goal

abbrev seats_of : Me (Unit {0}) (List (ℕ × Hand)) → List (ℕ × Hand)
seats_of me = me.0

pub load_new_seat-all-requires : goal.load_new_seat-all-requires
load_new_seat-all-requires c = (search rules, enters _ _ _)

pub loop-seat-init : goal.loop-seat-init
loop-seat-init c =
    let all = c.into_iter-seat-iterator.ensures.into_iter_gives.0 in
    record {
      table = c.load_new_seat-all.ensures.0;
      idle = c.load_new_seat-all.ensures.1;
      next = 0;
      left = subst (AreSeatsFrom c.args.self.now 0) (sym all) c.requires.1;
      whole = ap (λ (l : List DrawSeat). numbered 0 (map hand_of l)) (sym all) ∙ ap (λ (l : List (ℕ × Hand)). l ++ numbered 0 (map hand_of (into_iter_items c.into_iter-seat-iterator.result))) (sym (ap seats_of c.load_new_seat-all.ensures.2));
    }

pub join_seat-requires : goal.join_seat-requires
join_seat-requires c =
    let i = c.loop-seat.invariant in
    let seat = c.in-Some.seat in
    let g = gathered c.args.self.now i.next seat _ _ _ _ c.in-Some.ensures.steps.0 i.left i.whole seat.alone in
    (i.table, g.0.0, ap (λ (m : Me (Unit {0}) (List (ℕ × Hand))). m.1) seat.alone, search rules, joins _ _ _ _ _)

pub loop-seat-preserved : goal.loop-seat-preserved
loop-seat-preserved c =
    let i = c.loop-seat.invariant in
    let seat = c.in-Some.seat in
    let j = c.join_seat.ensures in
    let g = gathered c.args.self.now i.next seat _ _ _ _ c.in-Some.ensures.steps.0 i.left i.whole seat.alone in
    record {
      table = j.0 ∙ i.table;
      idle = ap (λ (m : Me (Unit {0}) (List (ℕ × Hand))). m.1) j.2 ∙ i.idle;
      next = suc i.next;
      left = g.1;
      whole = g.2 ∙ ap (λ (l : List (ℕ × Hand)). l ++ numbered (suc i.next) (map hand_of (into_iter_items c.next.new.self))) (sym (ap seats_of j.2));
    }

pub returns : goal.returns
returns c =
    let i = c.loop-seat.invariant in
    let none : length (into_iter_items c.loop-seat.seat-iterator) ≡ 0 = search rules in
    (i.table, all_gathered _ i.next _ _ i.whole none i.idle)
