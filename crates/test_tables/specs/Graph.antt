-- A graph of the files 1, 2, 4 and 7, so that no file's number is its module's. The first entry is the files 4 and 1, and
-- the second file 7.
use Rattle.std.specs.Prelude.{◌≡◌, ℕ, List, [], ◌∷◌, map, filter_map, codes, Option, Some, None, option_map}
use Rattle.pack_util.specs.declared.number.ModuleNo.{ModuleNo}
use Rattle.graph_types.specs.Edges.{blocks_of, sync_targets_of}
use Rattle.graph_types.specs.Modules.{file_id, module_no, module_of}
use Rattle.graph_types.specs.declared.block.Block.{Block}
use Rattle.graph_types.specs.declared.item.Item.{Item}
use Rattle.graph_types.specs.declared.item.ItemKind.{ItemKind}
use Rattle.graph_types.specs.declared.item.ItemKind.TheVariants.{Import, ExportFrom, Require, Lazy, Eager}
use Rattle.graph_types.specs.declared.record.ModKind.TheVariants.{Es}
use Rattle.graph_types.specs.declared.record.ModRecord.{ModRecord}

abbrev pub item : ItemKind → Option ℕ → Item
item kind target = record {
  kind = kind;
  span = record { start = 0; end = 9 };
  at = 7;
  request = codes "./a.js";
  chunk_name = None;
  target = option_map file_id target;
}

abbrev pub rec_of : ℕ → List ℕ → List Item → ModRecord
rec_of file path items = record {
  file = file_id file;
  path = path;
  size = 0;
  kind = Es;
  text = [];
  items = items;
  binds = [];
  exports = [];
  stars = [];
  edits = [];
  notes = [];
  faults = [];
}

abbrev pub first : ModRecord
first = rec_of 1 (codes "a.js")
    (item Import (Some 2) ∷ item Lazy (Some 4) ∷ item Require None ∷ item Require (Some 7) ∷ item ExportFrom (Some 4)
    ∷ item Eager (Some 7) ∷ item Lazy (Some 2) ∷ [])

abbrev pub second : ModRecord
second = rec_of 2 (codes "b.js") []

abbrev pub third : ModRecord
third = rec_of 4 (codes "d.js") (item Lazy (Some 1) ∷ item Import (Some 4) ∷ [])

abbrev pub fourth : ModRecord
fourth = rec_of 7 (codes "g.js") (item Import None ∷ item Require None ∷ [])

abbrev pub records : List ModRecord
records = first ∷ second ∷ third ∷ fourth ∷ []

abbrev pub modules : List ℕ → List ModuleNo
modules numbers = map module_no numbers

abbrev pub block : ℕ → ℕ → ℕ → Block
block place number target = record { «module» = module_no place; item = number; target = module_no target }

pub record ModulesAreFound : Type 0 where
  pub file_1 : module_of records (file_id 1) ≡ Some (module_no 0)
  pub file_2 : module_of records (file_id 2) ≡ Some (module_no 1)
  pub file_4 : module_of records (file_id 4) ≡ Some (module_no 2)
  pub file_7 : module_of records (file_id 7) ≡ Some (module_no 3)
  pub file_0 : module_of records (file_id 0) ≡ None
  pub file_3 : module_of records (file_id 3) ≡ None
  pub file_5 : module_of records (file_id 5) ≡ None
  pub file_6 : module_of records (file_id 6) ≡ None
  pub file_8 : module_of records (file_id 8) ≡ None
  pub last_file : module_of records (file_id 4_294_967_295) ≡ None

pub record EdgesAreFollowed : Type 0 where
  pub from_first : sync_targets_of records first ≡ modules (1 ∷ 3 ∷ 2 ∷ 3 ∷ [])
  pub from_second : sync_targets_of records second ≡ []
  pub from_third : sync_targets_of records third ≡ modules (2 ∷ [])
  pub from_fourth : sync_targets_of records fourth ≡ []
  pub on_demand : blocks_of records ≡ block 0 1 2 ∷ block 0 6 1 ∷ block 2 0 0 ∷ []
  pub first_entry : filter_map (module_of records) (file_id 4 ∷ file_id 1 ∷ []) ≡ modules (2 ∷ 0 ∷ [])
  pub second_entry : filter_map (module_of records) (file_id 7 ∷ []) ≡ modules (3 ∷ [])
