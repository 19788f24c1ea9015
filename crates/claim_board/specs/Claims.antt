-- What the calls of a claim board promise a seat (this project): a file has one owner, the seat that claimed it first, and
-- that seat publishes the file's record once.
use Rattle.std.specs.Prelude.{◌≡◌, ℕ, suc, ◌<◌, ◌≤◌, true, false, cond, ◌==◌, List, [], ◌∷◌, length, None, is_some, count_by}
use Rattle.std.specs.List.{AllByRecursion}
use Rattle.graph_types.specs.declared.record.ModRecord.{ModRecord}
use Rattle.claim_board.specs.declared.board.ClaimBoard.{ClaimBoard}
use Rattle.claim_board.specs.declared.answers.Claim.{Claim}
use Rattle.claim_board.specs.declared.answers.Claim.TheVariants as claimed
use Rattle.claim_board.specs.declared.answers.Look.{Look}
use Rattle.claim_board.specs.declared.answers.Look.TheVariants as looked
use Rattle.claim_board.specs.declared.lists.Lists.{Lists}
use Rattle.claim_board.specs.declared.seat.ClaimSeat.{ClaimSeat}
use Rattle.claim_board.specs.declared.ticket.Ticket.{Ticket}
use Rattle.claim_board.specs.Lists.{is_in, is_seen, record_in, empty_lists, lists_in, win, see, see_published}

-- ---- a seat, a board and a ticket

abbrev pub lists_of : ClaimSeat → Lists ModRecord
lists_of seat = lists_in seat.token.me.0

abbrev pub number : ClaimSeat → ℕ
number seat = seat.number

-- the files that the seat claimed
abbrev pub won : ClaimSeat → List ℕ
won seat = (lists_of seat).won

-- the files that the seat published, with their records
abbrev pub published : ClaimSeat → List (ℕ × ModRecord)
published seat = (lists_of seat).published

-- files that the seat was told of, with their owners
abbrev pub seen : ClaimSeat → List (ℕ × ℕ)
seen seat = (lists_of seat).seen

-- files that the seat was told are published
abbrev pub seen_published : ClaimSeat → List ℕ
seen_published seat = (lists_of seat).seen_published

abbrev pub board_files : ClaimBoard → ℕ
board_files board = board.files

abbrev pub IsSeatOf : ClaimBoard → ClaimSeat → Type 0
IsSeatOf board seat = seat.token.table_id ≡ board.table.shared.table_id

-- the same seat of the same board
abbrev pub IsSameSeat : ClaimSeat → ClaimSeat → Type 0
IsSameSeat old new = (new.token.table_id ≡ old.token.table_id) × (new.number ≡ old.number)

-- the seat's ticket for this file of the board
abbrev pub IsTicket : ClaimBoard → ClaimSeat → ℕ → Ticket → Type 0
IsTicket board seat file ticket = (ticket.board.value.table_id ≡ board.table.shared.table_id) × (ticket.seat ≡ seat.number) × (ticket.file.0 ≡ file)

-- these are seats of the board, numbered from a number on
abbrev pub AreSeatsFrom : ClaimBoard → ℕ → List ClaimSeat → Type 0
AreSeatsFrom board from [] = Unit {0}
AreSeatsFrom board from (seat ∷ seats) = IsSeatOf board seat × (seat.number ≡ from) × AreSeatsFrom board (suc from) seats

-- these are all seats of the board, in their order
abbrev pub AreSeatsOf : ClaimBoard → List ClaimSeat → Type 0
AreSeatsOf board seats = (length seats ≡ board.seats) × AreSeatsFrom board 0 seats

-- a board of so many files with so many seats, which know nothing yet
pub record AreNew (files seats : ℕ) (board : ClaimBoard) (dealt : List ClaimSeat) : Type 0 where
  pub files_are : board.files ≡ files
  pub seats_are : board.seats ≡ seats
  pub all : AreSeatsOf board dealt
  pub new : AllByRecursion (λ seat. lists_of seat ≡ empty_lists) dealt

-- ---- claiming

module _ {T : Type 0} where
  -- nobody owned the file, and now the seat does
  pub record IsWon (file : ℕ) (old now : Lists T) : Type 0 where
    pub not_won : is_in file old.won ≡ false
    pub not_seen : (owner : ℕ) → is_seen file owner old.seen ≡ false
    pub not_published : record_in file old.published ≡ None
    pub lists : now ≡ win file old

  -- the file has this owner, which the seat is told where it isn't the owner itself
  pub record IsKnown (seat file owner : ℕ) (old now : Lists T) : Type 0 where
    pub won : is_in file old.won ≡ (owner == seat)
    pub seen : (other : ℕ) → is_seen file other old.seen ≡ true → owner ≡ other
    pub lists : now ≡ cond (owner == seat) old (see file owner old)

  -- nobody owns the file
  pub record IsFree (file : ℕ) (old now : Lists T) : Type 0 where
    pub not_won : is_in file old.won ≡ false
    pub not_seen : (owner : ℕ) → is_seen file owner old.seen ≡ false
    pub not_published : record_in file old.published ≡ None
    pub not_seen_published : is_in file old.seen_published ≡ false
    pub lists : now ≡ old

  -- the file has this owner, which hasn't published its record
  pub record IsClaimed (seat file owner : ℕ) (old now : Lists T) : Type 0 where
    pub known : IsKnown seat file owner old now
    pub not_published : record_in file old.published ≡ None
    pub not_seen_published : is_in file old.seen_published ≡ false

  -- the file has this owner, which has published its record
  pub record IsPublished (seat file owner : ℕ) (old now : Lists T) : Type 0 where
    pub won : is_in file old.won ≡ (owner == seat)
    pub published : is_some (record_in file old.published) ≡ (owner == seat)
    pub seen : (other : ℕ) → is_seen file other old.seen ≡ true → owner ≡ other
    pub lists : now ≡ cond (owner == seat) old (see_published file owner old)

  -- how many records of the file the seat published
  abbrev pub copies : ℕ → List (ℕ × T) → ℕ
  copies file pairs = count_by (λ pair. pair.0 == file) pairs

  -- the seat published no file that it didn't claim, and none twice
  abbrev pub IsOnce : Lists T → Type 0
  IsOnce lists = (file : ℕ) → copies file lists.published ≤ cond (is_in file lists.won) 1 0

  -- each file that the seat claimed or was told of is one of so many
  abbrev pub AreInside : ℕ → Lists T → Type 0
  AreInside files lists =
      ((file : ℕ) → is_in file lists.won ≡ true → file < files) × ((file owner : ℕ) → is_seen file owner lists.seen ≡ true → file < files) × ((file : ℕ) → is_in file lists.seen_published ≡ true → file < files)

abbrev pub IsClaim : ClaimBoard → ClaimSeat → ClaimSeat → ℕ → Claim → Type 0
IsClaim board old new file (claimed.New ticket) = IsTicket board old file ticket × IsWon file (lists_of old) (lists_of new)
IsClaim board old new file (claimed.Known owner) = IsKnown (number old) file owner (lists_of old) (lists_of new)

abbrev pub IsLook : ClaimSeat → ClaimSeat → ℕ → Look → Type 0
IsLook old new file looked.Free = IsFree file (lists_of old) (lists_of new)
IsLook old new file (looked.Claimed owner) = IsClaimed (number old) file owner (lists_of old) (lists_of new)
IsLook old new file (looked.Published owner) = IsPublished (number old) file owner (lists_of old) (lists_of new)
