-- What is read of `output`.
use Rattle.std.specs.Prelude.{◌≡◌, codes, Option}
use Rattle.asset_names.specs.Template.{IsTemplateOf}
use Rattle.json_order.specs.declared.tree.JsonTree.{JsonTree}
use Rattle.pack_config.specs.declared.output.Output.{Output}
use Rattle.pack_config.specs.Grammar.{digits_of, public_path}
use Rattle.pack_config.specs.Templates.{template_text}
use Rattle.pack_config.specs.Values.{text_value, value_at}

pub record IsOutputOf (value : Option JsonTree) (output : Output) : Type 0 where
  pub filename : IsTemplateOf (digits_of value) (template_text (codes "[name].js") (value_at (codes "filename") value)) output.filename.parts
  pub chunk_filename : IsTemplateOf (digits_of value) (template_text (codes "[id].js") (value_at (codes "chunkFilename") value)) output.chunk_filename.parts
  pub public_path : output.public_path ≡ public_path (text_value (value_at (codes "publicPath") value))
