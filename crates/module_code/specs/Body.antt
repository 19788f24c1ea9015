-- A module's text with its edits (this project): what stands between the edited spans is kept.
use Rattle.std.specs.Prelude.{ℕ, List, [], ◌∷◌, ◌++◌, drop, slice_get, codes, Option, Some, None}
use Rattle.std.specs.List.{slice_range}
use Rattle.std.specs.Option.{option_map_or}
use Rattle.pack_util.specs.declared.number.ModuleNo.{ModuleNo}
use Rattle.graph_types.specs.declared.edit.Edit.{Edit}
use Rattle.graph_types.specs.declared.edit.EditText.{EditText}
use Rattle.graph_types.specs.declared.edit.EditText.TheVariants.{Fixed, Load}
use Rattle.graph_types.specs.declared.item.Item.{Item}
use Rattle.graph_types.specs.declared.item.ItemKind.{ItemKind}
use Rattle.graph_types.specs.declared.item.ItemKind.TheVariants.{Import, ExportFrom, Require, Lazy, Eager}
use Rattle.graph_types.specs.declared.record.ModRecord.{ModRecord}
use Rattle.module_code.specs.Blocks.{block_at, chunks_of_block}
use Rattle.module_code.specs.Ids.{chunk_ids, id_text, ids_text, target_id}
use Rattle.module_code.specs.Numbers.{target_of}
use Rattle.module_code.specs.View.{Sealing}

-- a `require` of a module, which stays as written where no file is meant
abbrev pub require_text : Sealing → List ℕ → Option ModuleNo → List ℕ
require_text view written None = written
require_text view written (Some target) = codes "__cp(" ++ id_text view target.0 ++ codes ")"

-- a call of `import` whose module is in the caller's chunk: a promise of the module
abbrev pub eager_text : List ℕ → List ℕ
eager_text id = codes "Promise.resolve().then(function(){return __cp.x(" ++ id ++ codes ")})"

-- a call of `import` whose module is loaded on demand: a promise of its chunks, then of the module
abbrev pub lazy_text : List ℕ → List ℕ → List ℕ
lazy_text chunks id = codes "__cp.e([" ++ ids_text chunks ++ codes "]).then(function(){return __cp.x(" ++ id ++ codes ")})"

-- the load of a block. A call that is no block, which is a fault, stays as written
abbrev pub block_text : Sealing → List ℕ → Item → Option ℕ → List ℕ
block_text view written item None = written
block_text view written item (Some block) = lazy_text (chunk_ids view.chunks (chunks_of_block view block)) (target_id view item)

-- what loads the module of a call, by the numbers of the calling module and of the call in it. A declaration is no call and
-- stays as written
abbrev pub call_text : Sealing → ℕ → List ℕ → ℕ → Item → ItemKind → List ℕ
call_text view caller written number item Import = written
call_text view caller written number item ExportFrom = written
call_text view caller written number item Require = require_text view written (target_of view.graph.records item)
call_text view caller written number item Lazy = block_text view written item (block_at view.graph.records caller number)
call_text view caller written number item Eager = eager_text (target_id view item)

-- what is put in the place of what was written. A number that no item has changes nothing
abbrev pub put_text : Sealing → ℕ → List Item → List ℕ → EditText → List ℕ
put_text view caller items written (Fixed text) = text
put_text view caller items written (Load number) =
    option_map_or (λ item. call_text view caller written number item item.kind) (slice_get items number) written

-- the text from a place on: what stands before the next edit, what that puts, and so on
abbrev pub with_edits : (List ℕ → EditText → List ℕ) → List ℕ → ℕ → List Edit → List ℕ
with_edits put text from [] = drop from text
with_edits put text from (edit ∷ edits) =
    slice_range text from edit.span.start
    ++ (put (slice_range text edit.span.start edit.span.end) edit.put ++ with_edits put text edit.span.end edits)

abbrev pub body_text : Sealing → ℕ → ModRecord → List ℕ
body_text view caller rec = with_edits (put_text view caller rec.items) rec.text 0 rec.edits
