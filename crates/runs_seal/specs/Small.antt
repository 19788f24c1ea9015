-- The records of a graph: the file of each is its place, and there are few of them, each small and with items alone.
use Rattle.std.specs.Prelude.{◌≡◌, ℕ, ◌<◌, ◌≤◌, ◌*◌, List, [], length, map, slice_index, sum, All, IsTrue, is_some}
use Rattle.graph_types.specs.declared.item.Item.{Item}
use Rattle.graph_types.specs.declared.record.ModRecord.{ModRecord}
use Rattle.graph_types.specs.Modules.{files_of}

-- an item in a text of this length, with a target
pub record IsGood (size : ℕ) (item : Item) : Type 0 where
  pub at : item.at ≤ size
  pub target : IsTrue (is_some item.target)

pub record AreGood (size : ℕ) (items : List Item) : Type 0 where
  pub few : length items ≤ 8_192
  pub each : All (IsGood size) items

pub record HasSmall (rec : ModRecord) : Type 0 where
  pub size : rec.size ≤ 4_194_304
  pub text : length rec.text ≤ 4_096
  pub items : AreGood (length rec.text) rec.items
  pub binds : rec.binds ≡ []
  pub exports : rec.exports ≡ []
  pub stars : rec.stars ≡ []
  pub edits : rec.edits ≡ []
  pub faults : rec.faults ≡ []

pub record AreSmall (records : List ModRecord) : Type 0 where
  pub count : length records ≤ 32_768
  pub files : (k : ℕ) → k < length records → slice_index (files_of records) k ≡ k
  pub items : All HasSmall records
  pub sizes : sum (map (λ rec. rec.size) records) ≤ length records * 4_194_304
