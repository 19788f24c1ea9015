-- Blocks filed one after another in the groups that they load (this project).
use Rattle.std.specs.Prelude.{◌≡◌, ◌≢◌, ℕ, ◌<◌, List, [], ◌∷◌, ◌++◌, length, take, slice_index_or}
use Rattle.pack_util.specs.declared.number.ModuleNo.{ModuleNo}
use Rattle.graph_types.specs.declared.block.Block.{Block}
use Rattle.graph_types.specs.declared.entry.EntrySpec.{EntrySpec}
use Rattle.graph_types.specs.declared.groups.GroupInfo.{GroupInfo}
use Rattle.graph_types.specs.declared.record.ModRecord.{ModRecord}
use Rattle.graph_types.specs.Modules.{AreNumbersOf, Graph}
use Rattle.chunk_groups.specs.ChunkGroups.{groups_with, numbered_blocks}
use Rattle.chunk_groups.specs.Grouped.{info_at}

-- the block's module and its item are there
pub record StandsIn (records : List ModRecord) (block : Block) : Type 0 where
  pub within : block.«module».0 < length records
  pub item : (d : ModRecord) → block.item < length (slice_index_or records block.«module».0 d).items

-- the groups as far as the first blocks load them
abbrev pub groups_so_far : Graph → List EntrySpec → ℕ → List GroupInfo
groups_so_far graph entries count = groups_with graph entries (take count (numbered_blocks graph.records))

-- the group with one more block
abbrev pub with_block : GroupInfo → ℕ → ModuleNo → GroupInfo
with_block info number target = record info { roots = info.roots ++ target ∷ []; blocks = info.blocks ++ number ∷ [] }

-- a block is put at the end of one group's, which may be new
pub record IsPut (old new : List GroupInfo) (number g : ℕ) : Type 0 where
  pub here : (info_at new g).blocks ≡ (info_at old g).blocks ++ number ∷ []
  pub others : (h : ℕ) → h ≢ g → info_at new h ≡ info_at old h

-- the modules of each of the first entries are numbers of modules
abbrev pub AreRoots : Graph → ℕ → Type 0
AreRoots graph count = (e : ℕ) → e < count → AreNumbersOf graph.records (slice_index_or graph.roots e [])
