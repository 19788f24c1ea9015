use Rattle.std.proofs.Common.{◌≡◌, ℕ, suc, ◌+◌, length, arith, sym, ap, subst, ◌∙◌, length-append}
use Rattle.std.specs.Vec.Iter.{into_iter_items}
use Rattle.claim_board.specs.declared.seat.ClaimSeat.{ClaimSeat}
use Rattle.claim_board.specs.Claims.{AreSeatsFrom}
use Rattle.test_boards.proofs.Halves.{next_seat, one_more}
use Rattle.test_boards.proofs.threads.work.Goals as goal

pub loop-seat-preserved : goal.loop-seat-preserved
loop-seat-preserved c =
    let i = c.loop-seat.invariant in
    let board = c.args.board.now in
    let list = c.in-Some.ensures.steps.0 in
    let n = next_seat board c.loop-seat.number c.in-Some.seat _ _ list i.left in
    let same = c.build_all.ensures in
    let pushed = c.in_ok-push.ensures.items in
    let next : suc c.loop-seat.number ≡ c.loop-seat.number + 1 = omega arith in
    let grown : length c.push.new.self.items ≡ length c.loop-seat.done.seats.items + 1 = omega (arith, ap length pushed, length-append {A = ClaimSeat}) in
    let left : length (into_iter_items c.loop-seat.seat-iterator) ≡ suc (length (into_iter_items c.next.new.self)) = ap length list in
    record {
      number = omega (arith, grown, i.number);
      done = subst (AreSeatsFrom board c.args.from) (sym pushed) (one_more board c.args.from c.loop-seat.done.seats.items c.build_all.new.seat c.loop-seat.number i.number i.done (same.0 ∙ n.0) (same.1 ∙ n.1));
      left = subst (λ (k : ℕ). AreSeatsFrom board k (into_iter_items c.next.new.self)) next n.2;
      all = omega (arith, grown, left, i.all);
    }
