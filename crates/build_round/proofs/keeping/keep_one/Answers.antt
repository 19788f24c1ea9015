use Rattle.claim_board.specs.Claims.{board_files}
use Rattle.build_round.proofs.Kept.{keeps_known}
use Rattle.build_round.proofs.Seats.{known_now, published_now}
use Rattle.build_round.proofs.keeping.keep_one.Goals as goal

pub returns-in-Claimed-clause-seat : goal.returns-in-Claimed-clause-seat
returns-in-Claimed-clause-seat c =
    (known_now c.args.file.0 c.in-Claimed.field-0 c.args.seat.now c.look.new.seat c.in-Claimed.ensures.board c.in-Claimed.ensures.look.known).0

pub returns-in-Claimed-clause-kept : goal.returns-in-Claimed-clause-kept
returns-in-Claimed-clause-kept c =
    keeps_known (board_files c.args.board.now) c.look.new.seat c.args.file.0 c.args.kept.now.items
    (known_now c.args.file.0 c.in-Claimed.field-0 c.args.seat.now c.look.new.seat c.in-Claimed.ensures.board c.in-Claimed.ensures.look.known).1

pub returns-in-Published-clause-seat : goal.returns-in-Published-clause-seat
returns-in-Published-clause-seat c =
    (published_now c.args.file.0 c.in-Published.field-0 c.args.seat.now c.look.new.seat c.in-Published.ensures.board c.in-Published.ensures.look).0

pub returns-in-Published-clause-kept : goal.returns-in-Published-clause-kept
returns-in-Published-clause-kept c =
    keeps_known (board_files c.args.board.now) c.look.new.seat c.args.file.0 c.args.kept.now.items
    (published_now c.args.file.0 c.in-Published.field-0 c.args.seat.now c.look.new.seat c.in-Published.ensures.board c.in-Published.ensures.look).1
