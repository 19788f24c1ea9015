use Rattle.std.proofs.Common.{rules, ◌≡◌, ◌+◌, ◌-◌, ◌<◌, ℕ, length, length-append, List, [], ◌∷◌, replicate, arith, sym, ap, zero-add, subst, refl, ◌∙◌}
use Rattle.graph_types.specs.declared.record.ModRecord.{ModRecord}
use Rattle.board_seats.specs.Seats.{first_of, rest_of, numbered}
use Rattle.board_seats.proofs.Steps.{splits_first}
use Rattle.board_seats.proofs.Sitting.{numbered-next}
use Rattle.std.specs.List.{AllByRecursion}
use Rattle.claim_board.specs.Lists.{lists_in, empty_lists}
use Rattle.claim_board.specs.declared.lists.Lists.{Lists}
use Rattle.claim_board.specs.Claims.{AreSeatsFrom}
use Rattle.claim_board.specs.declared.seat.ClaimSeat.{ClaimSeat}
use Rattle.claim_board.proofs.Gathering.{Token, IsNewSeat, seats-push, new-push}
use Rattle.claim_board.proofs.Telling.{steady_seat, steady_empty}
use Rattle.claim_board.proofs.board.ClaimBoard.deal.Goals as goal

-- the seats still to be dealt begin with the next one
next_seat : (me : Token) (number end : ℕ) → me ≡ (numbered number (replicate (end - number) empty_lists), []) → number < end
    → me.0 ≡ (number, empty_lists) ∷ numbered (number + 1) (replicate (end - (number + 1)) empty_lists)
next_seat me number end is below = ap (λ (m : Token). m.0) is ∙ numbered-next number end empty_lists below

pub split_seat-token-requires : goal.split_seat-token-requires
split_seat-token-requires c =
    let i = c.loop-number.invariant in
    (i.table, search rules, splits_first _ _ _ _ _ (next_seat _ c.loop-number.number _ i.view c.loop-number-test.true))

pub invariant_of-push : goal.invariant_of-push
invariant_of-push c =
    let i = c.loop-number.invariant in
    let first = next_seat _ c.loop-number.number _ i.view c.loop-number-test.true in
    let mine = c.split_seat-token.ensures.4 ∙ ap (λ (l : List (ℕ × Lists ModRecord)). (first_of l, [])) first in
    let s = steady_seat c.split_seat-token.result.table_id.slots c.loop-number.number (empty_lists {T = ModRecord}) _ mine (steady_empty _ (empty_lists {T = ModRecord}) refl) in
    record { alone = s.0; idle = s.1.0; once = s.1.1; inside = s.1.2 }

pub loop-number-preserved : goal.loop-number-preserved
loop-number-preserved c =
    let i = c.loop-number.invariant in
    let first = next_seat _ c.loop-number.number _ i.view c.loop-number-test.true in
    let s = c.split_seat-token.ensures in
    let mine = s.4 ∙ ap (λ (l : List (ℕ × Lists ModRecord)). (first_of l, [])) first in
    let lists = ap (λ (m : Token). lists_in m.0) mine in
    let pushed = c.in_ok-push.ensures.items in
    record {
      table = s.0 ∙ i.table;
      view = s.2 ∙ (λ k. (ap rest_of first k, ap (λ (m : Token). m.1) i.view k));
      made = omega (arith, i.made, ap length pushed, length-append {A = ClaimSeat});
      seats = subst (AreSeatsFrom c.args.self.now 0) (sym pushed) (seats-push c.args.self.now 0 c.loop-number.dealt.items _ i.seats (s.3 ∙ i.table) (sym i.made ∙ sym (zero-add _)));
      new = subst (AllByRecursion IsNewSeat) (sym pushed) (new-push c.loop-number.dealt.items _ i.new lists);
    }
