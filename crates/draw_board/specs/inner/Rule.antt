-- What holds of a draw board between any two steps (this project).
use Rattle.std.specs.Prelude.{◌≡◌, ℕ, ◌+◌, ◌^◌, ◌<◌, ◌≤◌, ◌⊎◌, true, cond, ltb, List, [], ◌∷◌, ◌++◌, length, slice_index, sum_by, count_by}
use mathlib.Core.Option.{Option, some}
use lib.ListN.{get_elem?}
use Rattle.board_seats.specs.Seats.{only}
use Rattle.draw_board.specs.declared.hand.Hand.{Hand}
use Rattle.draw_board.specs.Hands.{hand_in}
use Rattle.draw_board.specs.Draws.{above, times, once_below}
use Rattle.atomic_table.specs.Table.{Me}

-- what a seat knows of the board: no position that it drew is still to be drawn
pub record IsHand (len taken : ℕ) (hand : Hand) : Type 0 where
  pub len_is : hand.len ≡ len
  pub risen : above hand.drawn ≤ taken

-- The one word is how many positions are taken, and one more for each seat that drew none, which happens only once all
-- positions are taken. Those below are drawn once.
pub record IsDealt {S : Type 0} (len seats : ℕ) (words : List ℕ) (homes : List (Option S)) (book : List Hand) : Type 0 where
  pub taken : ℕ
  pub wide : length words ≡ 1
  pub as_many : length book ≡ seats
  pub small : (len < 2 ^ 32) × (seats < 2 ^ 32)
  pub next : slice_index words 0 ≡ taken + count_by (λ hand. hand.is_done) book
  pub within : taken ≤ len
  pub full : (taken ≡ len) ⊎ (count_by (λ hand. hand.is_done) book ≡ 0)
  pub once : (position : ℕ) → sum_by (λ hand. times position hand.drawn) book ≡ once_below position taken
  pub hands : (number : ℕ) (hand : Hand) → get_elem? book number ≡ some hand → IsHand len taken hand

-- a seat that found this number in the word
abbrev pub after_draw : ℕ → Hand → Hand
after_draw found hand = cond (ltb found hand.len) (record hand { drawn = hand.drawn ++ found ∷ [] }) (record hand { is_done = true })

-- what a draw tells: the number found is above all that the seat drew, where it is a position
pub record Drawn {S : Type 0} (before : Me S (List (ℕ × Hand))) (found : ℕ) (now : Me S (List (ℕ × Hand))) : Type 0 where
  pub rises : found < (hand_in before.0).len → above (hand_in before.0).drawn ≤ found
  pub now_is : (number : ℕ) → before.0 ≡ only number (hand_in before.0) → now ≡ (only number (after_draw found (hand_in before.0)), before.1)
