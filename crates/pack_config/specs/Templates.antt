-- The templates of names (webpack, "output.filename" and "output.chunkFilename").
use Rattle.std.specs.Prelude.{ℕ, Bool, false, List, Option, Some, None}
use Rattle.std.specs.List.{flat_map, slice_split}
use Rattle.std.specs.Option.{unwrap_or}
use Rattle.asset_names.specs.Reading.{is_open, read_pieces}
use Rattle.asset_names.specs.Template.{letter_for}
use Rattle.graph_types.specs.declared.part.Part.{Part}
use Rattle.json_order.specs.declared.tree.JsonTree.{JsonTree}
use Rattle.path_text.specs.Path.{is_normal}
use Rattle.pack_config.specs.declared.fault.ConfigFault.{ConfigFault}
use Rattle.pack_config.specs.Values.{checked, text_of, text_value}

abbrev pub are_template : Option (List Part) → Bool
are_template None = false
are_template (Some parts) = is_normal (flat_map letter_for parts)

-- a text that has a template
abbrev pub is_template : ℕ → List ℕ → Bool
is_template digits text = are_template (read_pieces digits (slice_split is_open text))

abbrev pub template_rule : ℕ → JsonTree → List ConfigFault
template_rule digits tree = checked (is_template digits) (text_of tree) tree

-- the text whose template counts
abbrev pub template_text : List ℕ → Option JsonTree → List ℕ
template_text default value = unwrap_or (text_value value) default
