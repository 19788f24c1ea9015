-- What is known of one seat of a claim board (this project). Files and seats are named by their numbers.
use Rattle.std.specs.Prelude.{ℕ, Bool, cond, ◌&&◌, ◌==◌, List, [], ◌∷◌, ◌++◌, Option, Some, None}
use Rattle.std.specs.List.{list_any}
use Rattle.claim_board.specs.declared.lists.Lists.{Lists}

abbrev pub is_in : ℕ → List ℕ → Bool
is_in file files = list_any (λ other. other == file) files

-- the pair of this file and this owner stands in the list
abbrev pub is_seen : ℕ → ℕ → List (ℕ × ℕ) → Bool
is_seen file owner pairs = list_any (λ pair. (pair.0 == file) && (pair.1 == owner)) pairs

module _ {T : Type 0} where
  -- the first record of the file in the list
  abbrev pub record_in : ℕ → List (ℕ × T) → Option T
  record_in file [] = None
  record_in file (pair ∷ pairs) = cond (pair.0 == file) (Some pair.1) (record_in file pairs)

  abbrev pub empty_lists : Lists T
  empty_lists = record { won = []; published = []; seen = []; seen_published = []; out = [] }

  -- the lists of the one seat that a token stands for
  abbrev pub lists_in : List (ℕ × Lists T) → Lists T
  lists_in [] = empty_lists
  lists_in (seat ∷ seats) = seat.1

  -- the seat claimed the file
  abbrev pub win : ℕ → Lists T → Lists T
  win file lists = record lists { won = lists.won ++ file ∷ [] }

  -- the seat was told the file's owner
  abbrev pub see : ℕ → ℕ → Lists T → Lists T
  see file owner lists = record lists { seen = lists.seen ++ (file, owner) ∷ [] }

  -- the seat was told the file's owner, and that its record is published
  abbrev pub see_published : ℕ → ℕ → Lists T → Lists T
  see_published file owner lists = record lists { seen = lists.seen ++ (file, owner) ∷ []; seen_published = lists.seen_published ++ file ∷ [] }

  -- the seat published the file's record
  abbrev pub put_in : ℕ → T → Lists T → Lists T
  put_in file rec lists = record lists { published = lists.published ++ (file, rec) ∷ []; out = [] }
