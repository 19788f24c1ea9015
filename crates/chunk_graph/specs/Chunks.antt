-- Chunk graphs (webpack, ChunkGraph): the chunks with their modules, and the chunks that each group loads. Modules,
-- chunks and groups are named by their numbers, and a set of modules or chunks is a row of truth values.
use Rattle.std.specs.Prelude.{◌≡◌, ℕ, ◌<◌, ◌≤◌, ◌^◌, Bool, true, false, not, ◌&&◌, List, [], length, slice_index_or, None, ◌==◌}
use Rattle.std.specs.List.{list_any, count_by}
use Rattle.pack_util.specs.declared.number.ChunkNo.{ChunkNo}
use Rattle.chunk_graph.specs.declared.chunk.Chunk.{Chunk}

-- The number of modules, the chunks in the order of their numbers, the chunks of each group, how many groups are those
-- of entries (they stand first), and for each cache group whether it is spent.
pub record State : Type 0 where
  pub width : ℕ
  pub chunks : List Chunk
  pub groups : List (List ChunkNo)
  pub entries : ℕ
  pub spent : List Bool

-- what stands for a number that isn't given out: a chunk that is gone
abbrev pub no_chunk : Chunk
no_chunk = record { entry = false; name = None; mods = []; gone = true; closed = false }

abbrev pub chunk_at : State → ℕ → Chunk
chunk_at s i = slice_index_or s.chunks i no_chunk

-- the place is there, and is true
abbrev pub is_in : List Bool → ℕ → Bool
is_in row i = slice_index_or row i false

-- how many places are true
abbrev pub count : List Bool → ℕ
count row = count_by (λ place. place) row

-- the chunk with this number holds the module
abbrev pub holds : State → ℕ → ℕ → Bool
holds s i m = is_in (chunk_at s i).mods m

-- a chunk that a split may change
abbrev pub is_open : Chunk → Bool
is_open c = not c.gone && not c.closed

-- the chunk with this number stands in the list
abbrev pub has : ℕ → List ChunkNo → Bool
has i list = list_any (λ c. c.0 == i) list

abbrev pub group_at : State → ℕ → List ChunkNo
group_at s g = slice_index_or s.groups g []

-- a chunk of the group holds the module
abbrev pub has_module : State → ℕ → ℕ → Bool
has_module s g m = list_any (λ c. holds s c.0 m) (group_at s g)

-- each chunk has a place for each module, and no group has a chunk that isn't given out or is gone
pub record IsShaped (s : State) : Type 0 where
  pub even : (i : ℕ) → i < length s.chunks → length (chunk_at s i).mods ≡ s.width
  pub within : (g i : ℕ) → has i (group_at s g) ≡ true → (i < length s.chunks) × ((chunk_at s i).gone ≡ false)

-- what is true of every chunk graph
pub record IsSound (s : State) : Type 0 where
  pub shaped : IsShaped s
  pub few : length s.chunks ≤ 8192
  pub few_groups : length s.groups ≤ 4096
  pub entries : s.entries ≤ length s.groups
  pub spent : length s.spent ≡ 16
  pub wide : s.width < 2 ^ 32
