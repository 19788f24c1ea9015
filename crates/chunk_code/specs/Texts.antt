-- The texts of chunks (this project): what adds a chunk's modules to a page, what a page needs first, and what runs an entry.
use Rattle.std.specs.Prelude.{ℕ, ◌==◌, Bool, not, List, [], ◌∷◌, ◌++◌, codes, decimal, map, filter, flat_map, slice_get, length, unwrap_or}
use Rattle.std.specs.List.{join_by, range_with_len}
use Rattle.std.specs.Option.{option_map_or}
use Rattle.chunk_graph.specs.Chunks.{State, chunk_at, group_at, is_in}
use Rattle.chunk_graph.specs.Moves.{id_of}
use Rattle.pack_util.specs.declared.number.ModuleNo.{ModuleNo}
use Rattle.module_code.specs.Ids.{chunk_ids, id_text, ids_text}
use Rattle.module_code.specs.ModuleText.{module_text_of}
use Rattle.module_code.specs.Quoted.{quoted_text, with_commas}
use Rattle.module_code.specs.View.{Sealing}
use Rattle.chunk_code.specs.Runtime.{runtime_functions}

-- ---- the modules of a chunk

-- the true places of a chunk's row: the numbers of its modules, ascending
abbrev pub members_in : List Bool → List ℕ
members_in row = filter (is_in row) (range_with_len 0 (length row))

abbrev pub members_of : State → ℕ → List ℕ
members_of state chunk = members_in (chunk_at state chunk).mods

-- the id of a chunk, and 0 for one that has none since it is gone
abbrev pub shown_id : State → ℕ → ℕ
shown_id state chunk = unwrap_or (id_of state chunk) 0

-- a member of an object that maps ids to modules
abbrev pub member_text : Sealing → ℕ → List ℕ
member_text view number = id_text view number ++ codes ":" ++ module_text_of view number

-- the end of the line of the last module, where there is one
abbrev pub last_end : List ℕ → List ℕ
last_end [] = []
last_end (first ∷ rest) = codes "\n"

-- the modules by their ids, with a comma and an end of line between
abbrev pub members_text : Sealing → List ℕ → List ℕ
members_text view members = join_by (member_text view) (codes ",\n") members ++ last_end members

-- the call that adds a chunk's modules
abbrev pub add_text : Sealing → ℕ → List ℕ → List ℕ
add_text view id members = codes "self.__chunkpack.a(" ++ decimal id ++ codes ",{\n" ++ members_text view members ++ codes "});\n"

abbrev pub chunk_text_of : Sealing → ℕ → List ℕ
chunk_text_of view chunk = add_text view (shown_id view.chunks chunk) (members_of view.chunks chunk)

-- ---- the runtime

-- the file of a chunk, by the chunk's id
abbrev pub file_text : ℕ × List ℕ → List ℕ
file_text file = decimal file.0 ++ codes ":" ++ quoted_text file.1

-- the runtime, for a page with this public path and these files of chunks that are loaded later
abbrev pub runtime_text_of : List ℕ → List (ℕ × List ℕ) → List ℕ
runtime_text_of public_path files =
    runtime_functions ++ codes "self.__chunkpack.u=" ++ quoted_text public_path
    ++ codes ";\nself.__chunkpack.f={" ++ with_commas (map file_text files) ++ codes "};\n"

-- ---- entries. An entry's chunk has the number of its group

-- the chunks of a group but the entry's own
abbrev pub awaited : Sealing → ℕ → List ℕ
awaited view group = chunk_ids view.chunks (filter (λ chunk. not (chunk.0 == group)) (group_at view.chunks group))

abbrev pub group_roots : Sealing → ℕ → List ModuleNo
group_roots view group = option_map_or (λ info. info.roots) (slice_get view.groups.infos group) []

-- the call that runs one module
abbrev pub start_text : Sealing → ModuleNo → List ℕ
start_text view root = codes "self.__chunkpack(" ++ id_text view root.0 ++ codes ");\n"

-- the call that runs an entry's modules in order, once the other chunks of its group are there
abbrev pub startup_text_of : Sealing → ℕ → List ℕ
startup_text_of view group =
    codes "self.__chunkpack.e([" ++ ids_text (awaited view group) ++ codes "]).then(function(){\n"
    ++ flat_map (start_text view) (group_roots view group) ++ codes "});\n"

-- the chunk of an entry: the runtime, its modules, and the start
abbrev pub entry_text_of : Sealing → ℕ → List (ℕ × List ℕ) → List ℕ
entry_text_of view group files =
    runtime_text_of view.config.public_path files ++ chunk_text_of view group ++ startup_text_of view group
