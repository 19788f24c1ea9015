-- The seats of a board and the tokens that stand for them (this project). A seat has a number, from 0 on, and an entry in
-- the board's book at the place of its number. A token of the table stands for some of the seats.
use Rattle.std.specs.Prelude.{◌≡◌, ◌≢◌, ℕ, suc, ◌<◌, List, [], ◌∷◌, length, slice_index, slice_set}
use mathlib.Core.Option.{some}
use lib.ListN.{get_elem?}
use Rattle.atomic_table.specs.Table.{State, Me, Act, Valid, homes_after, carried_after}

module _ {E : Type 0} where
  -- ---- the seats that a token stands for

  -- one seat alone
  abbrev pub only : ℕ → E → List (ℕ × E)
  only number entry = (number, entry) ∷ []

  -- all seats of a book, numbered from a number on
  abbrev pub numbered : ℕ → List E → List (ℕ × E)
  numbered number [] = []
  numbered number (entry ∷ entries) = (number, entry) ∷ numbered (suc number) entries

  abbrev pub first_of : List (ℕ × E) → List (ℕ × E)
  first_of [] = []
  first_of (seat ∷ seats) = seat ∷ []

  abbrev pub rest_of : List (ℕ × E) → List (ℕ × E)
  rest_of [] = []
  rest_of (seat ∷ seats) = seats

  -- ---- what holds between any two steps

  -- none of these is the seat of this number
  abbrev pub IsApart : ℕ → List (ℕ × E) → Type 0
  IsApart number [] = Unit {0}
  IsApart number (seat ∷ seats) = (number ≢ seat.0) × IsApart number seats

  -- each of these seats is as the book has it, is with this token, and stands here once
  abbrev pub SitWith : List E → (ℕ → ℕ) → ℕ → List (ℕ × E) → Type 0
  SitWith book holder token [] = Unit {0}
  SitWith book holder token (seat ∷ seats) =
      (get_elem? book seat.0 ≡ some seat.1) × (holder seat.0 ≡ token) × IsApart seat.0 seats × SitWith book holder token seats

  -- each token's seats are as the book has them, and no seat is with two tokens
  abbrev pub AllSit : List E → (ℕ → ℕ) → List (List (ℕ × E)) → Type 0
  AllSit book holder tokens = (token : ℕ) (seats : List (ℕ × E)) → get_elem? tokens token ≡ some seats → SitWith book holder token seats

module _ {S E : Type 0} (rule : List ℕ → List (mathlib.Core.Option.Option S) → List E → Type 0) where
  -- there is a book that meets the rule with the words and the slots, and the tokens' seats are its entries
  pub record Seated (state : State S (List (ℕ × E))) : Type 0 where
    pub book : List E
    pub holder : ℕ → ℕ
    pub sit : AllSit book holder state.views
    pub ruled : rule state.words state.homes book

  -- Whatever the table is when a word becomes f of what it was, the seat of this number has a new entry and an act that
  -- keep the rule, and `then` holds of the number found and of what the token has after.
  abbrev pub Moves : ℕ → ℕ → E → List (ℕ × S) → ℕ → (ℕ → ℕ) → (ℕ → Me S (List (ℕ × E)) → Type 0) → Type 0
  Moves slots number entry carried word f then = (words : List ℕ) (homes : List (mathlib.Core.Option.Option S)) (book : List E)
      → rule words homes book → length homes ≡ slots → get_elem? book number ≡ some entry → slice_index words word < 18446744073709551616
      → (now : E) × (act : Act S) × Valid homes carried act
      × rule (slice_set words word (f (slice_index words word))) (homes_after homes carried act) (slice_set book number now)
      × then (slice_index words word) (only number now, carried_after carried act)
