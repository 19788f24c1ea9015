-- How words hold a row: place `at` is bit `at % 64` of word `at / 64`. All of these are this project's.
use Rattle.std.specs.Prelude.{◌≡◌, ℕ, ◌+◌, ◌*◌, ◌/◌, ◌%◌, ◌<◌, ◌≤◌, Bool, List, ◌==◌, map, length, slice_index}
use Rattle.std.specs.Int.{bit_at}
use Rattle.std.specs.List.{range_with_len}
use Rattle.std.specs.Simd.Lanes.{chunk, mask_l}

-- the first `len` bits of the words
unfoldable pub row_of : ℕ → List ℕ → List Bool
row_of len words = map (λ at. bit_at (slice_index words (at / 64)) (at % 64) == 1) (range_with_len 0 len)

-- there are as few words as hold the row, and each is the number that its 64 places write, so that the bits past the row are zero
pub record IsPacked (words : List ℕ) (row : List Bool) : Type 0 where
  pub enough : length row ≤ 64 * length words
  pub fewest : 64 * length words < length row + 64
  pub packed : (k : ℕ) → slice_index words k ≡ mask_l (chunk (64 * k) 64 row)
