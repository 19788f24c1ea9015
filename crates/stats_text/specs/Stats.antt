-- The stats of a build (this project), as JSON whose members stand in the byte order of their keys. Modules, groups and the
-- chunks of splits are named by their numbers.
use Rattle.std.specs.Prelude.{ℕ, Bool, List, [], ◌++◌, codes, length, map, flat_map, filter_map, slice_index_or, is_some, Option, None, Some, option_map, if◌then◌else◌}
use Rattle.std.specs.List.{enumerate_from, range_with_len}
use Rattle.chunk_graph.specs.Chunks.{State, chunk_at, group_at}
use Rattle.chunk_graph.specs.Moves.{id_of}
use Rattle.chunk_graph.specs.declared.split.Split.{Split}
use Rattle.pack_util.specs.declared.number.GroupNo.{GroupNo}
use Rattle.pack_util.specs.declared.number.ModuleNo.{ModuleNo}
use Rattle.graph_types.specs.declared.config.Config.{Config}
use Rattle.graph_types.specs.declared.groups.GroupInfo.{GroupInfo}
use Rattle.graph_types.specs.declared.note.Note.{Note}
use Rattle.graph_types.specs.declared.note.NoteKind.{NoteKind}
use Rattle.graph_types.specs.declared.note.NoteKind.TheVariants.{N1, N2, N3, N4}
use Rattle.graph_types.specs.declared.record.ModRecord.{ModRecord}
use Rattle.graph_types.specs.Edges.{sync_targets_of}
use Rattle.graph_types.specs.GroupList.{GroupList}
use Rattle.graph_types.specs.Modules.{Graph}
use Rattle.serde_json.specs.Data.{Data, null, string, boolean, number, unsigned, array, object, member, no_members}
use Rattle.serde_json.specs.View.{items_of}
use Rattle.serde_json.specs.Written.{compact_text}
use Rattle.stats_text.specs.Lists.{loaded_groups, listed_ids, held_modules, size_of_modules}

abbrev pub number_stats : ℕ → Data
number_stats count = number (unsigned count)

abbrev pub list_stats : List Data → Data
list_stats values = array (items_of values)

abbrev pub modules_by_number : List ModuleNo → Data
modules_by_number modules = list_stats (map (λ m. number_stats m.0) modules)

-- a name, or null where there is none
abbrev pub name_stats : Option (List ℕ) → Data
name_stats None = null
name_stats (Some name) = string name

-- `{"chunk","name"}` of an asset: the id of its chunk, and its own name
abbrev pub asset_stats : ℕ × List ℕ → Data
asset_stats asset = object
    (member (codes "chunk") (number_stats asset.0)
    (member (codes "name") (string asset.1) no_members))

-- `{"entry","id","modules","name","no","size"}` of the chunk with this number and this id
abbrev pub chunk_stats : List ModRecord → State → ℕ → ℕ → Data
chunk_stats records s c id = object
    (member (codes "entry") (boolean (chunk_at s c).entry)
    (member (codes "id") (number_stats id)
    (member (codes "modules") (modules_by_number (held_modules (chunk_at s c).mods))
    (member (codes "name") (name_stats (chunk_at s c).name)
    (member (codes "no") (number_stats c)
    (member (codes "size") (number_stats (size_of_modules records (held_modules (chunk_at s c).mods))) no_members))))))

-- a chunk that is gone has no id, and isn't told
abbrev pub chunk_told : List ModRecord → State → ℕ → Option Data
chunk_told records s c = option_map (chunk_stats records s c) (id_of s c)

-- the chunks that aren't gone, by number
abbrev pub chunks_stats : List ModRecord → State → Data
chunks_stats records s = list_stats (filter_map (chunk_told records s) (range_with_len 0 (length s.chunks)))

-- `{"chunks","entry","name","roots"}` of a numbered group, with the ids of its chunks
abbrev pub group_stats : State → ℕ × GroupInfo → Data
group_stats s numbered = object
    (member (codes "chunks") (list_stats (map number_stats (listed_ids s (group_at s numbered.0))))
    (member (codes "entry") (boolean (is_some numbered.1.entry))
    (member (codes "name") (name_stats numbered.1.name)
    (member (codes "roots") (modules_by_number numbered.1.roots) no_members))))

abbrev pub groups_stats : GroupList → State → Data
groups_stats groups s = list_stats (map (group_stats s) (enumerate_from 0 groups.infos))

-- a module's id: its number, or its path
abbrev pub id_stats : Bool → ℕ × ModRecord → Data
id_stats named numbered = if named then string (codes "./" ++ numbered.1.path) else number_stats numbered.0

-- `{"blocks","id","path","size","sync"}` of a numbered module that loads these groups
abbrev pub module_stats : Bool → List ModRecord → List GroupNo → ℕ × ModRecord → Data
module_stats named records loaded numbered = object
    (member (codes "blocks") (list_stats (map (λ g. number_stats g.0) loaded))
    (member (codes "id") (id_stats named numbered)
    (member (codes "path") (string numbered.1.path)
    (member (codes "size") (number_stats numbered.1.size)
    (member (codes "sync") (modules_by_number (sync_targets_of records numbered.1)) no_members)))))

abbrev pub module_told : Bool → GroupList → List ModRecord → ℕ × ModRecord → Data
module_told named groups records numbered = module_stats named records (loaded_groups groups.of_block records numbered.0) numbered

abbrev pub kind_name : NoteKind → List ℕ
kind_name N1 = codes "N1"
kind_name N2 = codes "N2"
kind_name N3 = codes "N3"
kind_name N4 = codes "N4"

-- `{"at","detail","kind","path"}` of a note of the module at a path
abbrev pub note_stats : List ℕ → Note → Data
note_stats path note = object
    (member (codes "at") (number_stats note.at)
    (member (codes "detail") (string note.detail)
    (member (codes "kind") (string (kind_name note.kind))
    (member (codes "path") (string path) no_members))))

abbrev pub notes_in : ModRecord → List Data
notes_in rec = map (note_stats rec.path) rec.notes

-- the key of a cache group
abbrev pub key_of : Config → ℕ → List ℕ
key_of config k = slice_index_or (map (λ group. group.key) config.cache_groups) k []

-- `{"chunks","forced","group","made","modules","reused"}` of a split
abbrev pub split_stats : Config → Split → Data
split_stats config split = object
    (member (codes "chunks") (list_stats (map (λ c. number_stats c.0) split.chunks))
    (member (codes "forced") (boolean split.forced)
    (member (codes "group") (string (key_of config split.cache_group))
    (member (codes "made") (number_stats split.made.0)
    (member (codes "modules") (modules_by_number split.modules)
    (member (codes "reused") (boolean split.reused) no_members))))))

-- the stats of a build from its module graph, groups, chunks and configuration, the splits that were made, and each asset
-- with its chunk's id
abbrev pub stats_of : Graph → GroupList → State → Config → List Split → List (ℕ × List ℕ) → Data
stats_of graph groups chunks config splits assets = object
    (member (codes "assets") (list_stats (map asset_stats assets))
    (member (codes "chunks") (chunks_stats graph.records chunks)
    (member (codes "groups") (groups_stats groups chunks)
    (member (codes "modules") (list_stats (map (module_told config.named_ids groups graph.records) (enumerate_from 0 graph.records)))
    (member (codes "notes") (list_stats (flat_map notes_in graph.records))
    (member (codes "splits") (list_stats (map (split_stats config) splits))
    (member (codes "version") (number_stats 1) no_members)))))))

-- the text of the stats, whose line ends
abbrev pub stats_text_of : Graph → GroupList → State → Config → List Split → List (ℕ × List ℕ) → List ℕ
stats_text_of graph groups chunks config splits assets = compact_text (stats_of graph groups chunks config splits assets) ++ codes "\n"
