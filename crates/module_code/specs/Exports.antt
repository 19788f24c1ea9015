-- The names that a module exports (this project): each with a function that gives its value.
use Rattle.std.specs.Prelude.{ℕ, List, ◌++◌, map, slice_index, codes, decimal}
use Rattle.graph_types.specs.declared.binding.Export.{Export}
use Rattle.graph_types.specs.declared.binding.ExportFrom.{ExportFrom}
use Rattle.graph_types.specs.declared.binding.ExportFrom.TheVariants.{Local, Name, Space}
use Rattle.graph_types.specs.declared.record.ModRecord.{ModRecord}
use Rattle.module_code.specs.Numbers.{load_numbers}
use Rattle.module_code.specs.Quoted.{quoted_text, with_commas}

-- a local name, a name of a loaded module, or the loaded module
abbrev pub value_text : List ℕ → ExportFrom → List ℕ
value_text numbers (Local name) = name
value_text numbers (Name item name) =
    codes "__cp.g(__cp_i[" ++ decimal (slice_index numbers item) ++ codes "]," ++ quoted_text name ++ codes ")"
value_text numbers (Space item) = codes "__cp_i[" ++ decimal (slice_index numbers item) ++ codes "]"

-- `"name":function(){return VALUE}`
abbrev pub export_text : List ℕ → Export → List ℕ
export_text numbers export = quoted_text export.name ++ codes ":function(){return " ++ value_text numbers export.from ++ codes "}"

abbrev pub exports_text : ModRecord → List ℕ
exports_text rec = with_commas (map (export_text (load_numbers rec.items)) rec.exports)
