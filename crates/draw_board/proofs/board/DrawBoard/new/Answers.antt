use Rattle.std.proofs.Common.{[], rules}
use Rattle.std.proofs.lemmas.List.{length-replicate}
use Rattle.board_seats.proofs.Steps.{opens}
use Rattle.draw_board.proofs.Drawing.{begins}
use Rattle.draw_board.proofs.board.DrawBoard.new.Goals as goal

pub of_words-requires : goal.of_words-requires
of_words-requires c = opens _ _ [] _ (begins c.args.len c.args.seats (length-replicate _ _) (search rules) (search rules) [])
