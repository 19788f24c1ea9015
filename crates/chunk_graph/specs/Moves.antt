-- Each call that changes a chunk graph, as a function on its state (this project).
use Rattle.std.specs.Prelude.{ℕ, Bool, true, false, not, ◌&&◌, ◌||◌, List, [], ◌∷◌, ◌++◌, length, map, filter, fold, replicate, slice_index_or, slice_set, take, Option, None, Some, is_some, nat_lt, ◌==◌, if◌then◌else◌}
use Rattle.std.specs.List.{range_with_len, count_by, position_or_len}
use Rattle.std.specs.Cmp.Lexicographic.{pointwise}
use Rattle.std.proofs.Math.Bool.{beq}
use Rattle.bit_rows.specs.Places.{union, minus}
use Rattle.bit_rows.specs.Table.{Table, blank}
use Rattle.pack_util.specs.declared.number.ChunkNo.{ChunkNo}
use Rattle.chunk_graph.specs.declared.chunk.Chunk.{Chunk}
use Rattle.chunk_graph.specs.Chunks.{State, no_chunk, chunk_at, is_in, count, has, group_at}

abbrev pub chunk_no : ℕ → ChunkNo
chunk_no i = record { 0 = i }

-- ---- the start: one chunk for each group

abbrev pub first_chunk : Table → ℕ → List (Option (List ℕ)) → ℕ → Chunk
first_chunk placed entries names g = record {
  entry = nat_lt g entries;
  name = slice_index_or names g None;
  mods = slice_index_or placed.rows g [];
  gone = false;
  closed = false;
}

abbrev pub started : Table → ℕ → List (Option (List ℕ)) → State
started placed entries names = record {
  width = placed.width;
  chunks = map (first_chunk placed entries names) (range_with_len 0 (length placed.rows));
  groups = map (λ g. chunk_no g ∷ []) (range_with_len 0 (length placed.rows));
  entries = entries;
  spent = replicate 16 false;
}

-- ---- chunks added and joined to groups

abbrev pub new_chunk : Option (List ℕ) → ℕ → Chunk
new_chunk name width = record { entry = false; name = name; mods = blank width; gone = false; closed = false }

abbrev pub with_new : Option (List ℕ) → State → State
with_new name s = record s { chunks = s.chunks ++ new_chunk name s.width ∷ [] }

-- the list with the chunk at its end, unless it is there
abbrev pub joined : ℕ → List ChunkNo → List ChunkNo
joined i list = if has i list then list else list ++ chunk_no i ∷ []

abbrev pub connected : ℕ → ℕ → State → State
connected g i s = record s { groups = slice_set s.groups g (joined i (group_at s g)) }

-- ---- modules moved

-- the chunk once the modules have gone to it, or away from it
abbrev pub moved_one : List Bool → Bool → Bool → Chunk → Chunk
moved_one modules is_to leaves c =
    if is_to then record c { mods = union c.mods modules } else (if leaves then record c { mods = minus c.mods modules } else c)

-- the modules leave the chunks of a row other than one chunk, and are in that one
abbrev pub with_moved : List Bool → List Bool → ℕ → State → State
with_moved modules from to s = record s {
  chunks = map (λ i. moved_one modules (i == to) (is_in from i) (chunk_at s i)) (range_with_len 0 (length s.chunks));
}

abbrev pub with_closed : ℕ → State → State
with_closed i s = record s { chunks = slice_set s.chunks i (record (chunk_at s i) { closed = true }) }

abbrev pub with_spent : ℕ → State → State
with_spent k s = record s { spent = slice_set s.spent k true }

-- ---- chunks that go

abbrev pub same_row : List Bool → List Bool → Bool
same_row xs ys = pointwise beq xs ys

-- an unnamed chunk of no entry that isn't gone
abbrev pub may_merge : Chunk → Bool
may_merge c = not c.entry && (not (is_some c.name) && not c.gone)

abbrev pub are_equal : Chunk → Chunk → Bool
are_equal c d = may_merge d && same_row d.mods c.mods

-- the earliest chunk that is equal to this one, where this one may be merged; it is the first itself where none is earlier
abbrev pub merged_into : List Chunk → ℕ → ℕ
merged_into chunks i =
    if may_merge (slice_index_or chunks i no_chunk)
    then position_or_len (λ j. are_equal (slice_index_or chunks i no_chunk) (slice_index_or chunks j no_chunk)) (range_with_len 0 i)
    else i

-- each chunk in the place of those that are merged into it, and of several places of one chunk the first
abbrev pub merged_list : List Chunk → List ChunkNo → List ChunkNo
merged_list chunks list = fold (λ before c. joined (merged_into chunks c.0) before) [] list

abbrev pub merged_chunk : List Chunk → ℕ → Chunk
merged_chunk chunks i =
    record (slice_index_or chunks i no_chunk) { gone = (slice_index_or chunks i no_chunk).gone || not (merged_into chunks i == i) }

abbrev pub merged : State → State
merged s = record s {
  chunks = map (merged_chunk s.chunks) (range_with_len 0 (length s.chunks));
  groups = map (merged_list s.chunks) s.groups;
}

-- a chunk of no entry without modules
abbrev pub is_empty : Chunk → Bool
is_empty c = not c.entry && count c.mods == 0

-- the chunks of a list that aren't empty
abbrev pub needed : List Chunk → List ChunkNo → List ChunkNo
needed chunks list = filter (λ c. not (is_empty (slice_index_or chunks c.0 no_chunk))) list

abbrev pub gone_if_empty : Chunk → Chunk
gone_if_empty c = record c { gone = c.gone || is_empty c }

abbrev pub without_empty : State → State
without_empty s = record s { chunks = map gone_if_empty s.chunks; groups = map (needed s.chunks) s.groups }

-- ---- what is read

-- how many chunks before this one aren't gone
abbrev pub id_of : State → ℕ → Option ℕ
id_of s i = if (chunk_at s i).gone then None else Some (count_by (λ c. not c.gone) (take i s.chunks))
