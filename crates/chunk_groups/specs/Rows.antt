-- Rows of a table place by place; what is out of range is false (this project).
use Rattle.std.specs.Prelude.{ℕ, Bool, false, List, [], slice_index_or}

abbrev pub bit : List Bool → ℕ → Bool
bit row place = slice_index_or row place false

abbrev pub bit_in : List (List Bool) → ℕ → ℕ → Bool
bit_in rows g m = bit (slice_index_or rows g []) m
