-- Why splits end early (this project).
use Rattle.std.specs.Prelude.{ℕ, Bool, List, Option, None, Some, if◌then◌else◌}
use Rattle.std.specs.List.{list_any}
use Rattle.pack_util.specs.declared.number.ChunkNo.{ChunkNo}
use Rattle.chunk_graph.specs.Chunks.{State, is_in}
use Rattle.chunk_graph.specs.Moves.{joined, with_new, with_moved, with_closed}
use Rattle.split_plan.specs.Step.{with_joined, with_name_spent}
use Rattle.chunk_graph.specs.declared.end.ChunkEnd.{ChunkEnd}
use Rattle.chunk_graph.specs.declared.end.ChunkEnd.TheVariants as chunk
use Rattle.split_chunks.specs.declared.split_end.SplitEnd.{SplitEnd}
use Rattle.split_chunks.specs.declared.split_end.SplitEnd.TheVariants as split

abbrev pub split_end : ChunkEnd → SplitEnd
split_end chunk.Limit = split.Limit
split_end chunk.NoMemory = split.NoMemory

-- the chunks of a group once a chunk has joined it, where it has one of the row
abbrev pub joined_list : List Bool → ℕ → List ChunkNo → List ChunkNo
joined_list row n list = if list_any (λ c. is_in row c.0) list then joined n list else list

-- the state once the chunk that takes the modules is there
abbrev pub before_taking : Option (List ℕ) → State → Option ℕ → State
before_taking name s None = with_new name s
before_taking name s (Some n) = s

-- the state once the chunk has the modules
abbrev pub given : Option (List ℕ) → ℕ → List Bool → List Bool → ℕ → State → State
given name k chunks modules n s = with_name_spent name k (with_closed n (with_joined chunks n (with_moved modules chunks n s)))
