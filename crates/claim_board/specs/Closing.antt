-- What a closed claim board tells (this project): the seats' lists and the answer say the same.
use Rattle.std.specs.Prelude.{◌≡◌, ℕ, ◌<◌, ◌≤◌, true, List, length, slice_get, Contains, count_by, find, flat_map, Option, Some, IsSome, IsSomeAnd, option_map}
use Rattle.graph_types.specs.declared.record.ModRecord.{ModRecord}
use Rattle.claim_board.specs.declared.seat.ClaimSeat.{ClaimSeat}
use Rattle.claim_board.specs.Lists.{is_in, is_seen, record_in}
use Rattle.claim_board.specs.Claims.{number, won, published, seen, seen_published}

-- the first seat that claimed the file
abbrev pub winner : ℕ → List ClaimSeat → Option ClaimSeat
winner file seats = find (λ seat. is_in file (won seat)) seats

-- its number
abbrev pub owner_among : ℕ → List ClaimSeat → Option ℕ
owner_among file seats = option_map number (winner file seats)

-- the first record of the file that a seat published
abbrev pub record_among : ℕ → List ClaimSeat → Option ModRecord
record_among file seats = record_in file (flat_map published seats)

-- what this seat was told is so: each owner claimed the file, and the owner of each published file published it
pub record WasToldTrue (seats : List ClaimSeat) (seat : ClaimSeat) : Type 0 where
  pub owners : (file owner : ℕ) → is_seen file owner (seen seat) ≡ true → owner_among file seats ≡ Some owner
  pub records : (file : ℕ) → is_in file (seen_published seat) ≡ true → IsSomeAnd (winner file seats) (λ owner. IsSome (record_in file (published owner)))

-- No file was claimed by two seats, and what each seat was told is so. The answer has the owner and the record of each file.
pub record Closes (files : ℕ) (seats : List ClaimSeat) (owners : List (Option ℕ)) (records : List (Option ModRecord)) : Type 0 where
  pub once : (file : ℕ) → count_by (λ seat. is_in file (won seat)) seats ≤ 1
  pub told : (seat : ClaimSeat) → Contains seats seat → WasToldTrue seats seat
  pub as_many_owners : length owners ≡ files
  pub as_many_records : length records ≡ files
  pub owner : (file : ℕ) → file < files → slice_get owners file ≡ Some (owner_among file seats)
  pub recorded : (file : ℕ) → file < files → slice_get records file ≡ Some (record_among file seats)
