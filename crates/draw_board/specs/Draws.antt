-- What the calls of a draw board promise (this project): positions 0, 1, 2, .. below a length, each drawn once.
use Rattle.std.specs.Prelude.{◌≡◌, ℕ, suc, ◌+◌, ◌<◌, ◌≤◌, Bool, true, false, cond, ltb, ◌==◌, List, [], ◌∷◌, ◌++◌, length, Contains, Option, Some, None, sum_by, count_by}
use Rattle.std.specs.List.{AllByRecursion}
use Rattle.draw_board.specs.declared.board.DrawBoard.{DrawBoard}
use Rattle.draw_board.specs.declared.seat.DrawSeat.{DrawSeat}
use Rattle.draw_board.specs.declared.hand.Hand.{Hand}
use Rattle.draw_board.specs.Hands.{hand_in}

-- ---- a seat and a board

abbrev pub hand_of : DrawSeat → Hand
hand_of seat = hand_in seat.token.me.0

-- the positions that the seat drew, first to last
abbrev pub drawn : DrawSeat → List ℕ
drawn seat = (hand_of seat).drawn

abbrev pub has_drawn_none : DrawSeat → Bool
has_drawn_none seat = (hand_of seat).is_done

abbrev pub board_len : DrawBoard → ℕ
board_len board = board.len

abbrev pub IsSeatOf : DrawBoard → DrawSeat → Type 0
IsSeatOf board seat = (seat.token.table_id ≡ board.table.shared.table_id) × ((hand_of seat).len ≡ board.len)

-- the same seat of the same board
abbrev pub IsSameSeat : DrawSeat → DrawSeat → Type 0
IsSameSeat old new = (new.token.table_id ≡ old.token.table_id) × ((hand_of new).len ≡ (hand_of old).len) × (new.number ≡ old.number)

-- these are seats of the board, numbered from a number on
abbrev pub AreSeatsFrom : DrawBoard → ℕ → List DrawSeat → Type 0
AreSeatsFrom board number [] = Unit {0}
AreSeatsFrom board number (seat ∷ seats) = IsSeatOf board seat × (seat.number ≡ number) × AreSeatsFrom board (suc number) seats

-- these are all seats of the board, in their order
abbrev pub AreSeatsOf : DrawBoard → List DrawSeat → Type 0
AreSeatsOf board seats = (length seats ≡ board.seats) × AreSeatsFrom board 0 seats

-- a seat that has drawn nothing yet
abbrev pub IsNewSeat : DrawSeat → Type 0
IsNewSeat seat = (drawn seat ≡ []) × (has_drawn_none seat ≡ false)

-- a board of this length with this many seats, none of which has drawn
pub record AreNew (len seats : ℕ) (board : DrawBoard) (dealt : List DrawSeat) : Type 0 where
  pub len_is : board.len ≡ len
  pub seats_are : board.seats ≡ seats
  pub all : AreSeatsOf board dealt
  pub new : AllByRecursion IsNewSeat dealt

-- ---- drawing

-- one more than the last of these, and 0 where there is none
abbrev pub above : List ℕ → ℕ
above [] = 0
above (number ∷ []) = suc number
above (number ∷ next ∷ numbers) = above (next ∷ numbers)

-- A draw gives a position above all that the seat drew before, which joins them; or none, and then nothing joins them.
abbrev pub Draws : ℕ → DrawSeat → DrawSeat → Option ℕ → Type 0
Draws len old new (Some position) =
    (position < len) × (above (drawn old) ≤ position) × (above (drawn new) ≡ position + 1) × (drawn new ≡ drawn old ++ position ∷ []) × (has_drawn_none new ≡ false)
Draws len old new None = (drawn new ≡ drawn old) × (has_drawn_none new ≡ true)

-- how often a position stands in the list
abbrev pub times : ℕ → List ℕ → ℕ
times position numbers = count_by (λ number. number == position) numbers

-- once for each position below a number, and never for another
abbrev pub once_below : ℕ → ℕ → ℕ
once_below position number = cond (ltb position number) 1 0

-- So many were drawn. The seats' lists together have each position below that once and no other, and where some seat drew
-- none, that is all positions of the board.
pub record Closes (len : ℕ) (seats : List DrawSeat) (count : ℕ) : Type 0 where
  pub within : count ≤ len
  pub once : (position : ℕ) → sum_by (λ seat. times position (drawn seat)) seats ≡ once_below position count
  pub all : (seat : DrawSeat) → Contains seats seat → has_drawn_none seat ≡ true → count ≡ len
