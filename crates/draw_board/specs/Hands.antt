-- What is known of one seat of a draw board (this project).
use Rattle.std.specs.Prelude.{ℕ, false, List, [], ◌∷◌}
use Rattle.draw_board.specs.declared.hand.Hand.{Hand}

-- a seat that has drawn nothing, of a board of so many positions
abbrev pub empty_hand : ℕ → Hand
empty_hand len = record { len = len; drawn = []; is_done = false }

-- the hand of the one seat that a token stands for
abbrev pub hand_in : List (ℕ × Hand) → Hand
hand_in [] = empty_hand 0
hand_in (seat ∷ seats) = seat.1
