use Rattle.std.proofs.Common.{ℕ, sym, ap, subst}
use Rattle.atomic_table.specs.Seated.{TableId}
use Rattle.claim_board.specs.Claims.{lists_of}
use Rattle.claim_board.specs.Lists.{put_in}
use Rattle.claim_board.proofs.Telling.{IsSteady, steady_seat, steady_put}
use Rattle.claim_board.proofs.board.ClaimBoard.publish.Goals as goal

pub invariant_of-seat : goal.invariant_of-seat
invariant_of-seat c =
    let seat = c.args.seat.now in
    let file : ℕ = c.args.rec.file.0 in
    let slots : ℕ = seat.token.table_id.slots in
    let steady = steady_put slots file c.args.rec (lists_of seat) c.requires.won c.requires.once (seat.idle, seat.once, seat.inside) in
    let same = ap (λ (t : TableId). t.slots) c.put.ensures.board in
    let s = steady_seat c.put.new.token.table_id.slots seat.number (put_in file c.args.rec (lists_of seat)) c.put.new.token.me c.put.ensures.lists
    (subst (λ (n : ℕ). IsSteady n (put_in file c.args.rec (lists_of seat))) (sym same) steady) in
    record { alone = s.0; idle = s.1.0; once = s.1.1; inside = s.1.2 }
