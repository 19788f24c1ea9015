use Rattle.std.proofs.Common.{rules, ◌≡◌, ◌+◌, ◌-◌, ◌<◌, ℕ, length, length-append, List, [], ◌∷◌, replicate, arith, sym, ap, zero-add, subst, ◌∙◌}
use Rattle.atomic_table.specs.Table.{Me}
use Rattle.board_seats.specs.Seats.{only, first_of, rest_of, numbered}
use Rattle.board_seats.proofs.Steps.{splits_first}
use Rattle.board_seats.proofs.Sitting.{numbered-next}
use Rattle.draw_board.specs.Hands.{hand_in, empty_hand}
use Rattle.draw_board.specs.declared.hand.Hand.{Hand}
use Rattle.std.specs.List.{AllByRecursion}
use Rattle.draw_board.specs.Draws.{AreSeatsFrom, IsNewSeat}
use Rattle.draw_board.specs.declared.seat.DrawSeat.{DrawSeat}
use Rattle.draw_board.proofs.Closing.{seats-push, new-push}
use Rattle.draw_board.proofs.board.DrawBoard.deal.Goals as goal

-- the seats still to be dealt begin with the next one
next_seat : (me : Me (Unit {0}) (List (ℕ × Hand))) (number end len : ℕ) → me ≡ (numbered number (replicate (end - number) (empty_hand len)), []) → number < end
    → me.0 ≡ (number, empty_hand len) ∷ numbered (number + 1) (replicate (end - (number + 1)) (empty_hand len))
next_seat me number end len is below = ap (λ (m : Me (Unit {0}) (List (ℕ × Hand))). m.0) is ∙ numbered-next number end (empty_hand len) below

pub split_seat-token-requires : goal.split_seat-token-requires
split_seat-token-requires c =
    let i = c.loop-number.invariant in
    (i.table, search rules, splits_first _ _ _ _ _ (next_seat _ c.loop-number.number _ _ i.view c.loop-number-test.true))

pub invariant_of-push : goal.invariant_of-push
invariant_of-push c =
    let i = c.loop-number.invariant in
    let first = next_seat _ c.loop-number.number _ _ i.view c.loop-number-test.true in
    let mine = c.split_seat-token.ensures.4 ∙ ap (λ (l : List (ℕ × Hand)). (first_of l, [])) first in
    record { alone = mine ∙ ap (λ (h : Hand). (only c.loop-number.number h, [])) (sym (ap (λ (m : Me (Unit {0}) (List (ℕ × Hand))). hand_in m.0) mine)) }

pub loop-number-preserved : goal.loop-number-preserved
loop-number-preserved c =
    let i = c.loop-number.invariant in
    let first = next_seat _ c.loop-number.number _ _ i.view c.loop-number-test.true in
    let s = c.split_seat-token.ensures in
    let mine = s.4 ∙ ap (λ (l : List (ℕ × Hand)). (first_of l, [])) first in
    let hand = ap (λ (m : Me (Unit {0}) (List (ℕ × Hand))). hand_in m.0) mine in
    let pushed = c.in_ok-push.ensures.items in
    record {
      table = s.0 ∙ i.table;
      view = s.2 ∙ (λ k. (ap rest_of first k, ap (λ (m : Me (Unit {0}) (List (ℕ × Hand))). m.1) i.view k));
      made = omega (arith, i.made, ap length pushed, length-append {A = DrawSeat});
      seats = subst (AreSeatsFrom c.args.self.now 0) (sym pushed) (seats-push c.args.self.now 0 c.loop-number.dealt.items _ i.seats (s.3 ∙ i.table, ap (λ (h : Hand). h.len) hand) (sym i.made ∙ sym (zero-add _)));
      new = subst (AllByRecursion IsNewSeat) (sym pushed) (new-push c.loop-number.dealt.items _ i.new (ap (λ (h : Hand). h.drawn) hand, ap (λ (h : Hand). h.is_done) hand));
    }
