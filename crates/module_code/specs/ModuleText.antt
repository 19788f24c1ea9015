-- The text of a module in a chunk (this project): a function of the module's object, by the module's kind.
use Rattle.std.specs.Prelude.{ℕ, List, [], ◌++◌, drop, nat_eq, slice_get, codes, option_map, unwrap_or, if◌then◌else◌}
use Rattle.std.specs.List.{starts_with}
use Rattle.graph_types.specs.declared.record.ModKind.{ModKind}
use Rattle.graph_types.specs.declared.record.ModKind.TheVariants.{Es, Plain, Json, Bad}
use Rattle.graph_types.specs.declared.record.ModRecord.{ModRecord}
use Rattle.pack_util.specs.Mark.{byte_order_mark}
use Rattle.module_code.specs.Binds.{binds_text}
use Rattle.module_code.specs.Body.{body_text}
use Rattle.module_code.specs.Exports.{exports_text}
use Rattle.module_code.specs.Loads.{loads_text}
use Rattle.module_code.specs.View.{Sealing}

-- a module that declares neither imports nor exports
abbrev pub plain_text : Sealing → ℕ → ModRecord → List ℕ
plain_text view number rec = codes "function(module,exports,__cp){\n" ++ body_text view number rec ++ codes "\n}"

-- a text without the mark at its start
abbrev pub without_mark : List ℕ → List ℕ
without_mark text = if starts_with nat_eq text byte_order_mark then drop 3 text else text

-- a module whose text is one value
abbrev pub json_text : ModRecord → List ℕ
json_text rec = codes "function(module){module.exports=\n" ++ without_mark rec.text ++ codes "\n}"

-- a function's start, in which the names that imports declare are those of an object around what follows
abbrev pub imported_names : ModRecord → List ℕ
imported_names rec = codes "function(module,exports,__cp){var __cp_i=[];with(__cp.b(__cp_i,{" ++ binds_text rec ++ codes "})){"

-- a strict function's start, which first declares what is exported
abbrev pub exported_names : ModRecord → List ℕ
exported_names rec = codes "(function(){\"use strict\";__cp.d(exports,{" ++ exports_text rec ++ codes "});"

-- a module with imports or exports
abbrev pub es_text : Sealing → ℕ → ModRecord → List ℕ
es_text view number rec =
    imported_names rec ++ exported_names rec ++ loads_text view rec
    ++ codes "\n" ++ body_text view number rec ++ codes "\n}).call(undefined)}}"

-- a module of a kind. One that isn't read has a fault, so no chunk holds it
abbrev pub kind_text : Sealing → ℕ → ModRecord → ModKind → List ℕ
kind_text view number rec Es = es_text view number rec
kind_text view number rec Plain = plain_text view number rec
kind_text view number rec Json = json_text rec
kind_text view number rec Bad = plain_text view number rec

-- the text of the module of a record, by its kind
unfoldable pub record_text : Sealing → ℕ → ModRecord → List ℕ
record_text view number rec = kind_text view number rec rec.kind

-- the text of the module with this number, and nothing where no module has it
abbrev pub module_text_of : Sealing → ℕ → List ℕ
module_text_of view number = unwrap_or (option_map (record_text view number) (slice_get view.graph.records number)) []
