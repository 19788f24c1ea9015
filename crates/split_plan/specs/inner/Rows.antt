-- Rows that the search for candidates works with (this project).
use Rattle.std.specs.Prelude.{◌≡◌, ℕ, ◌-◌, ◌<◌, Bool, ◌&&◌, List, [], slice_index_or, length, map, take, drop, Option}
use Rattle.std.specs.List.{filter, list_any, range_with_len}
use Rattle.chunk_graph.specs.Chunks.{State, is_in, holds, has}
use Rattle.split_plan.specs.Shares.{is_reached}

abbrev pub chunk_row : State → (ℕ → Bool) → List Bool
chunk_row s test = map test (range_with_len 0 (length s.chunks))

-- the chunks that hold a module
abbrev pub column : State → ℕ → List Bool
column s m = chunk_row s (λ i. holds s i m)

abbrev pub columns_of : State → ℕ → List (List Bool)
columns_of s width = map (column s) (range_with_len 0 width)

-- as many rows as this, each with a place for each chunk
pub record AreChunkRows (s : State) (width : ℕ) (rows : List (List Bool)) : Type 0 where
  pub len : length rows ≡ width
  pub lens : (m : ℕ) → m < width → length (slice_index_or rows m []) ≡ length s.chunks

-- the chunks of the groups from `low` on and below `high` that have at least so many
abbrev pub reached_in : Option ℕ → ℕ → ℕ → State → ℕ → Bool
reached_in most low high s i = list_any (λ g. has i g && is_reached most (length g)) (drop low (take high s.groups))

-- the true places of a row from a place on, ascending
abbrev pub places_from : ℕ → List Bool → List ℕ
places_from at row = filter (is_in row) (range_with_len at (length row - at))

-- a row with a place for each chunk, which says of each number whether it passes the test
pub record IsChunkRow (s : State) (test : ℕ → Bool) (row : List Bool) : Type 0 where
  pub len : length row ≡ length s.chunks
  pub at : (i : ℕ) → is_in row i ≡ test i
