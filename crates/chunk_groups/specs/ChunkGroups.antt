-- The chunk groups of a graph (webpack, "Code Splitting" and `webpackChunkName`; their order is this project's): those of
-- the entries, then one for each chunk name, then one for each block without a name.
use Rattle.std.specs.Prelude.{◌≡◌, ℕ, ◌<◌, Bool, false, not, List, [], ◌∷◌, ◌++◌, length, map, filter, slice_index_or, Option, Some, None, is_some, bytes_eq, Contains}
use Rattle.std.specs.List.{enumerate_from}
use Rattle.pack_util.specs.declared.number.GroupNo.{GroupNo}
use Rattle.pack_util.specs.declared.number.ModuleNo.{ModuleNo}
use Rattle.graph_types.specs.declared.block.Block.{Block}
use Rattle.graph_types.specs.declared.entry.EntrySpec.{EntrySpec}
use Rattle.graph_types.specs.declared.groups.GroupInfo.{GroupInfo}
use Rattle.graph_types.specs.declared.record.ModRecord.{ModRecord}
use Rattle.graph_types.specs.Edges.{blocks_of}
use Rattle.graph_types.specs.GroupList.{GroupList}
use Rattle.graph_types.specs.Modules.{Graph}
use Rattle.chunk_groups.specs.ChunkNames.{chunk_name_of, chunk_names}
use Rattle.chunk_groups.specs.Grouped.{info_at}

-- the blocks with their numbers
abbrev pub numbered_blocks : List ModRecord → List (ℕ × Block)
numbered_blocks records = enumerate_from 0 (blocks_of records)

-- a group that is loaded on demand by these blocks
abbrev pub loaded_by : Option (List ℕ) → List (ℕ × Block) → GroupInfo
loaded_by name blocks = record { entry = None; name = name; roots = map (λ block. block.1.target) blocks; blocks = map (λ block. block.0) blocks }

abbrev pub is_named : List ℕ → Option (List ℕ) → Bool
is_named name None = false
is_named name (Some other) = bytes_eq other name

abbrev pub has_name : List ModRecord → List ℕ → ℕ × Block → Bool
has_name records name block = is_named name (chunk_name_of records block.1)

abbrev pub has_no_name : List ModRecord → ℕ × Block → Bool
has_no_name records block = not (is_some (chunk_name_of records block.1))

abbrev pub entry_group : List (List ModuleNo) → ℕ × EntrySpec → GroupInfo
entry_group roots entry = record { entry = Some entry.0; name = Some entry.1.name; roots = slice_index_or roots entry.0 []; blocks = [] }

abbrev pub numbered_entries : List EntrySpec → List (ℕ × EntrySpec)
numbered_entries entries = enumerate_from 0 entries

abbrev pub entry_groups : List (List ModuleNo) → List EntrySpec → List GroupInfo
entry_groups roots entries = map (entry_group roots) (numbered_entries entries)

abbrev pub named_group : List ModRecord → List (ℕ × Block) → List ℕ → GroupInfo
named_group records blocks name = loaded_by (Some name) (filter (has_name records name) blocks)

abbrev pub unnamed_groups : List ModRecord → List (ℕ × Block) → List GroupInfo
unnamed_groups records blocks = map (λ block. loaded_by None (block ∷ [])) (filter (has_no_name records) blocks)

-- the groups of a graph where these of its blocks load groups
abbrev pub groups_with : Graph → List EntrySpec → List (ℕ × Block) → List GroupInfo
groups_with graph entries blocks =
    entry_groups graph.roots entries ++ map (named_group graph.records blocks) (chunk_names graph.records) ++ unnamed_groups graph.records blocks

abbrev pub groups_of : Graph → List EntrySpec → List GroupInfo
groups_of graph entries = groups_with graph entries (numbered_blocks graph.records)

abbrev pub group_at : List GroupNo → ℕ → ℕ
group_at of_block b = (slice_index_or of_block b (record { 0 = 0 })).0

-- each of so many blocks is in the group that is told for it, and in no other
pub record TellsGroups (blocks : ℕ) (groups : GroupList) : Type 0 where
  pub len : length groups.of_block ≡ blocks
  pub has : (b : ℕ) → b < blocks → Contains (info_at groups.infos (group_at groups.of_block b)).blocks b
  pub only : (b g : ℕ) → Contains (info_at groups.infos g).blocks b → (b < blocks) × (group_at groups.of_block b ≡ g)
