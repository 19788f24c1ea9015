-- What holds of a claim board between any two steps (this project). The word of file f is word f + 1: it is 0 while nobody
-- owns the file, 2 (o + 1) once seat o claimed it, and 2 (o + 1) + 1 once seat o published its record.
use Rattle.std.specs.Prelude.{◌≡◌, ℕ, ◌+◌, ◌*◌, ◌<◌, ◌≤◌, ◌⊎◌, Bool, true, false, cond, ◌==◌, List, length, slice_index, Some, None}
use Rattle.std.specs.Prelude as std
use mathlib.Core.Option.{Option, some}
use lib.ListN.{get_elem?}
use Rattle.claim_board.specs.declared.lists.Lists.{Lists}
use Rattle.claim_board.specs.Lists.{is_in, is_seen, record_in}

-- ---- a file

-- nobody owns it; a seat does; or that seat has published its record
pub data Stage (T : Type 0) : Type 0 where
  unclaimed : Stage T
  owned : ℕ → Stage T
  done : ℕ → T → Stage T

module _ {T : Type 0} where
  abbrev pub word_of : Stage T → ℕ
  word_of unclaimed = 0
  word_of (owned seat) = 2 * (seat + 1)
  word_of (done seat rec) = 2 * (seat + 1) + 1

  abbrev pub owns : ℕ → Stage T → Bool
  owns seat unclaimed = false
  owns seat (owned owner) = owner == seat
  owns seat (done owner rec) = owner == seat

  abbrev pub is_done : Stage T → Bool
  is_done unclaimed = false
  is_done (owned owner) = false
  is_done (done owner rec) = true

  -- the seat owns the file and hasn't published its record
  abbrev pub is_building : ℕ → Stage T → Bool
  is_building seat unclaimed = false
  is_building seat (owned owner) = owner == seat
  is_building seat (done owner rec) = false

  -- the record that this seat published
  abbrev pub record_by : ℕ → Stage T → std.Option T
  record_by seat unclaimed = None
  record_by seat (owned owner) = None
  record_by seat (done owner rec) = cond (owner == seat) (Some rec) None

  abbrev pub OwnerBelow : ℕ → Stage T → Type 0
  OwnerBelow seats unclaimed = Unit {0}
  OwnerBelow seats (owned owner) = owner < seats
  OwnerBelow seats (done owner rec) = owner < seats

  -- ---- a seat and a file

  -- what the seat knows of the file is so
  pub record Fits (seat file : ℕ) (stage : Stage T) (lists : Lists T) : Type 0 where
    pub won : is_in file lists.won ≡ owns seat stage
    pub published : record_in file lists.published ≡ record_by seat stage
    pub seen : (owner : ℕ) → is_seen file owner lists.seen ≡ true → owns owner stage ≡ true
    pub seen_published : is_in file lists.seen_published ≡ true → is_done stage ≡ true
    pub out : is_in file lists.out ≡ true → is_building seat stage ≡ true

  -- some seat has the file's slot out
  abbrev pub IsOut : List (Lists T) → ℕ → Type 0
  IsOut book file = (seat : ℕ) × (lists : Lists T) × (get_elem? book seat ≡ some lists) × (is_in file lists.out ≡ true)

  -- the slot of a file that isn't done is at home and holds none, or is out; that of a done file is at home with the record
  abbrev pub IsHome : List (Option (std.Option T)) → List (Lists T) → ℕ → Stage T → Type 0
  IsHome homes book file unclaimed = (get_elem? homes file ≡ some (some None)) ⊎ IsOut book file
  IsHome homes book file (owned owner) = (get_elem? homes file ≡ some (some None)) ⊎ IsOut book file
  IsHome homes book file (done owner rec) = get_elem? homes file ≡ some (some (Some rec))

  pub record IsFile (seats : ℕ) (homes : List (Option (std.Option T))) (book : List (Lists T)) (file word : ℕ) (stage : Stage T) : Type 0 where
    pub word_is : word ≡ word_of stage
    pub below : OwnerBelow seats stage
    pub fits : (seat : ℕ) (lists : Lists T) → get_elem? book seat ≡ some lists → Fits seat file stage lists
    pub home : IsHome homes book file stage

  -- ---- the board

  -- each file is at some stage, which its word and its slot show and each seat's lists fit
  pub record IsKept (files seats : ℕ) (words : List ℕ) (homes : List (Option (std.Option T))) (book : List (Lists T)) : Type 0 where
    pub wide : length words ≡ files + 1
    pub deep : length homes ≡ files
    pub as_many : length book ≡ seats
    pub few : seats ≤ 4294967295
    pub stage : ℕ → Stage T
    pub each : (file : ℕ) → file < files → IsFile seats homes book file (slice_index words (file + 1)) (stage file)
