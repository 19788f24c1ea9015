-- How rows of modules fall to those that are there whenever a group is loaded (this project). A group that is pending has
-- to hand down what it has there and what it brings.
use Rattle.std.specs.Prelude.{◌≡◌, ◌↔◌, ℕ, ◌+◌, ◌<◌, ◌≤◌, ◌⊎◌, Bool, true, false, List, [], length, map, replicate, slice_index_or, is_some, if◌then◌else◌, IsTrue, Contains}
use Rattle.std.specs.List.{count_by, sum_by}
use Rattle.bit_rows.specs.Table.{Table, blank}
use Rattle.graph_types.specs.declared.groups.GroupInfo.{GroupInfo}
use Rattle.graph_types.specs.Edges.{blocks_of}
use Rattle.graph_types.specs.Modules.{Graph}
use Rattle.chunk_groups.specs.Grouped.{home_of, info_at}
use Rattle.chunk_groups.specs.Net.{Net}
use Rattle.chunk_groups.specs.Rows.{bit, bit_in}
use Rattle.chunk_groups.specs.Serving.{MayLack, Opens}

-- the row has the places below `end` of which this holds
pub record SaysWhich (holds : ℕ → Type 0) (row : List Bool) (end : ℕ) : Type 0 where
  pub says : (k : ℕ) → k < end → IsTrue (bit row k) ↔ holds k

-- a block that loads the group stands in one of these modules
abbrev pub HasHomeIn : Graph → GroupInfo → List Bool → Type 0
HasHomeIn graph info modules = (home : ℕ) × Contains (map (home_of (blocks_of graph.records)) info.blocks) home × IsTrue (bit modules home)

-- it is loaded on demand by such a block
abbrev pub IsOpened : Graph → GroupInfo → List Bool → Type 0
IsOpened graph info modules = (is_some info.entry ≡ false) × HasHomeIn graph info modules

abbrev pub AreOpened : Net → List (List Bool) → Type 0
AreOpened net rows = (p g : ℕ) → IsTrue (bit_in rows p g) ↔ Opens net p g

-- of an entry's group nothing, of any other everything
abbrev pub first_row : GroupInfo → ℕ → List Bool
first_row info width = if is_some info.entry then blank width else replicate width true

pub record AreFirst (infos : List GroupInfo) (width : ℕ) (table : Table) : Type 0 where
  pub rows : length table.rows ≡ length infos
  pub wide : table.width ≡ width
  pub each : (g : ℕ) → g < length infos → slice_index_or table.rows g [] ≡ first_row (info_at infos g) width

abbrev pub trues : List Bool → ℕ
trues row = count_by (λ place. place) row

abbrev pub all_trues : List (List Bool) → ℕ
all_trues rows = sum_by trues rows

-- the rows of these groups fell to what is handed down, and those that changed are pending
pub record IsHandedDown (to : ℕ → Type 0) (down : List Bool) (old new : Table) (pending now : List Bool) : Type 0 where
  pub rows : length new.rows ≡ length old.rows
  pub width : new.width ≡ old.width
  pub places : length now ≡ length pending
  pub grows : (g : ℕ) → IsTrue (bit pending g) → IsTrue (bit now g)
  pub falls : (g m : ℕ) → IsTrue (bit_in new.rows g m) → IsTrue (bit_in old.rows g m)
  pub met : (g m : ℕ) → to g → IsTrue (bit_in new.rows g m) → IsTrue (bit down m)
  pub kept : (g : ℕ) → bit now g ≡ false → slice_index_or new.rows g [] ≡ slice_index_or old.rows g []
  pub only : (g m : ℕ) → IsTrue (bit_in old.rows g m) → bit_in new.rows g m ≡ false → to g × (bit down m ≡ false)
  pub weight : all_trues new.rows + trues now ≤ all_trues old.rows + trues pending

-- tables with a row for each group, rows with a place for each group, and rows with a place for each module
pub record AreSized (opened brought avail : Table) (pending down spare : List Bool) : Type 0 where
  pub opened_rows : length opened.rows ≡ length pending
  pub opened_width : opened.width ≡ length pending
  pub brought_rows : length brought.rows ≡ length pending
  pub brought_width : brought.width ≡ avail.width
  pub avail_rows : length avail.rows ≡ length pending
  pub down_len : length down ≡ avail.width
  pub spare_len : length spare ≡ avail.width

-- what stays true while rows fall: what isn't true any more may be missing along some load history
pub record IsFalling (net : Net) (brings : ℕ → ℕ → Type 0) (modules : ℕ) (avail : List (List Bool)) (pending : List Bool) : Type 0 where
  pub entries : (g m : ℕ) → IsTrue (net.is_entry g) → IsTrue (bit_in avail g m) → ⊥
  pub handed : (p g m : ℕ) → Opens net p g → IsTrue (bit_in avail g m) → IsTrue (bit pending p) ⊎ (IsTrue (bit_in avail p m) ⊎ brings p m)
  pub missing : (g m : ℕ) → g < net.groups → m < modules → bit_in avail g m ≡ false → MayLack net brings g m
