-- What the steps of a claim board tell the seat that makes them (this project).
use Rattle.std.specs.Prelude.{◌≡◌, ℕ, ◌-◌, ◌/◌, ◌%◌, ◌==◌, cond, List, [], ◌∷◌, Option, Some, None}
use Rattle.atomic_table.specs.Table.{Me, Step}
use Rattle.board_seats.specs.Seats.{only}
use Rattle.claim_board.specs.declared.lists.Lists.{Lists}
use Rattle.claim_board.specs.Lists.{lists_in, win, see, see_published, put_in}
use Rattle.claim_board.specs.Rule.{Stage, word_of, OwnerBelow, Fits}

module _ {T : Type 0} where
  -- the number of the one seat that a token stands for
  abbrev pub number_in : List (ℕ × Lists T) → ℕ
  number_in [] = 0
  number_in (seat ∷ seats) = seat.0

  -- a seat that found the word of a file with an owner
  abbrev pub after_owned : ℕ → ℕ → ℕ → Lists T → Lists T
  after_owned owner seat file lists = cond (owner == seat) lists (see file owner lists)

  abbrev pub after_done : ℕ → ℕ → ℕ → Lists T → Lists T
  after_done owner seat file lists = cond (owner == seat) lists (see_published file owner lists)

  -- what a seat knows after it found this word: at a claim, and at a look
  abbrev pub after_claim : ℕ → ℕ → ℕ → Lists T → Lists T
  after_claim found seat file lists = cond (found == 0) (win file lists) (after_owned (found / 2 - 1) seat file lists)

  abbrev pub after_look : ℕ → ℕ → ℕ → Lists T → Lists T
  after_look found seat file lists =
      cond (found == 0) lists (cond (found % 2 == 0) (after_owned (found / 2 - 1) seat file lists) (after_done (found / 2 - 1) seat file lists))

  -- A claim and a look tell the stage at which the file was found, and what the seat knows after.
  pub record Told (after : ℕ → ℕ → ℕ → Lists T → Lists T) (step : Step (Option T)) (before : Me (Option T) (List (ℕ × Lists T))) (found : ℕ) (now : Me (Option T) (List (ℕ × Lists T))) : Type 0 where
    pub stage : Stage T
    pub word_is : found ≡ word_of stage
    pub below : OwnerBelow 4294967295 stage
    pub fits : Fits (number_in before.0) (step.word - 1) stage (lists_in before.0)
    pub now_is : now ≡ (only (number_in before.0) (after found (number_in before.0) (step.word - 1) (lists_in before.0)), before.1)

  -- the file's slot is out with the seat
  abbrev pub take_out : ℕ → Lists T → Lists T
  take_out file lists = record lists { out = file ∷ [] }

  abbrev pub Took : Step (Option T) → Me (Option T) (List (ℕ × Lists T)) → Me (Option T) (List (ℕ × Lists T)) → Type 0
  Took step before now = now ≡ (only (number_in before.0) (take_out (step.word - 1) (lists_in before.0)), (step.word - 1, None) ∷ before.1)

  -- the slot goes home, and the record in it is published
  abbrev pub give_back : List (ℕ × Option T) → Lists T → Lists T
  give_back [] lists = lists
  give_back ((file, None) ∷ carried) lists = lists
  give_back ((file, Some rec) ∷ carried) lists = put_in file rec lists

  abbrev pub Gave : Me (Option T) (List (ℕ × Lists T)) → Me (Option T) (List (ℕ × Lists T)) → Type 0
  Gave before now = now ≡ (only (number_in before.0) (give_back before.1 (lists_in before.0)), [])
