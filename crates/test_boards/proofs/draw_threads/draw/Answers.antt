use Rattle.std.proofs.Common.{◌≡◌, ℕ, suc, ◌+◌, length, refl, arith, sym, ap, subst, ◌∙◌, length-append}
use Rattle.std.specs.Vec.Iter.{into_iter_items}
use Rattle.draw_board.specs.declared.seat.DrawSeat.{DrawSeat}
use Rattle.draw_board.specs.Draws.{AreSeatsFrom}
use Rattle.test_boards.proofs.DrawHalves.{next_seat, next_new, one_more}
use Rattle.test_boards.proofs.draw_threads.draw.Goals as goal

pub draw_all-requires-clause-board : goal.draw_all-requires-clause-board
draw_all-requires-clause-board c = (next_seat c.args.board.now _ c.in-Some.seat _ _ c.in-Some.ensures.steps.0 c.loop-seat.invariant.left).0

pub draw_all-requires-clause-more : goal.draw_all-requires-clause-more
draw_all-requires-clause-more c = (next_new c.in-Some.seat _ _ c.in-Some.ensures.steps.0 c.loop-seat.invariant.new).0.1

pub loop-seat-preserved : goal.loop-seat-preserved
loop-seat-preserved c =
    let i = c.loop-seat.invariant in
    let board = c.args.board.now in
    let list = c.in-Some.ensures.steps.0 in
    let at : ℕ = c.args.from + length c.loop-seat.done.seats.items in
    let n = next_seat board at c.in-Some.seat _ _ list i.left in
    let same = c.draw_all.ensures in
    let pushed = c.in_ok-push.ensures.items in
    let grown : length c.push.new.self.items ≡ length c.loop-seat.done.seats.items + 1 = omega (arith, ap length pushed, length-append {A = DrawSeat}) in
    let left : length (into_iter_items c.loop-seat.seat-iterator) ≡ suc (length (into_iter_items c.next.new.self)) = ap length list in
    let next : suc at ≡ c.args.from + length c.push.new.self.items = omega (arith, grown) in
    record {
      done = subst (AreSeatsFrom board c.args.from) (sym pushed) (one_more board c.args.from c.loop-seat.done.seats.items c.draw_all.new.seat at refl i.done (same.0 ∙ n.0.0, same.1 ∙ n.0.1) (same.2 ∙ n.1));
      left = subst (λ (k : ℕ). AreSeatsFrom board k (into_iter_items c.next.new.self)) next n.2;
      new = (next_new c.in-Some.seat _ _ list i.new).1;
      all = omega (arith, grown, left, i.all);
    }
