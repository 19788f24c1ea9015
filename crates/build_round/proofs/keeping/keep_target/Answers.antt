use Rattle.std.proofs.Common.{refl}
use Rattle.claim_board.specs.Claims.{board_files}
use Rattle.build_round.proofs.Kept.{keeps_none}
use Rattle.build_round.proofs.Seats.{stays}
use Rattle.build_round.proofs.keeping.keep_target.Goals as goal

pub keep_one-requires-clause-file : goal.keep_one-requires-clause-file
keep_one-requires-clause-file c = rw c.in-Some.is at c.requires.within

pub returns-in-Some-clause-kept : goal.returns-in-Some-clause-kept
returns-in-Some-clause-kept c = rw c.in-Some.is c.keep_one.ensures.kept

pub returns-in-None-clause-seat : goal.returns-in-None-clause-seat
returns-in-None-clause-seat c = stays c.args.seat.now c.args.seat.now (refl, refl) refl

pub returns-in-None-clause-kept : goal.returns-in-None-clause-kept
returns-in-None-clause-kept c = rw c.in-None.is (keeps_none (board_files c.args.board.now) c.args.seat.now c.args.kept.now.items)
