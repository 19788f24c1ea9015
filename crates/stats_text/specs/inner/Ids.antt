-- The ids of chunks as a list (this project).
use Rattle.std.specs.Prelude.{ℕ, List, map, length, Option}
use Rattle.std.specs.List.{range_with_len}
use Rattle.chunk_graph.specs.Chunks.{State}
use Rattle.chunk_graph.specs.Moves.{id_of}

-- the id of each chunk, by number
abbrev pub all_ids : State → List (Option ℕ)
all_ids s = map (id_of s) (range_with_len 0 (length s.chunks))
