-- What is read of `resolve`.
use Rattle.std.specs.Prelude.{codes, Option}
use Rattle.json_order.specs.declared.tree.JsonTree.{JsonTree}
use Rattle.pack_config.specs.declared.resolve.Resolve.{Resolve}
use Rattle.pack_config.specs.Grammar.{aliases_of, default_conditions, default_extensions, default_fields, default_files}
use Rattle.pack_config.specs.Values.{texts_value, value_at}

abbrev pub resolve_of : Option JsonTree → Resolve
resolve_of value = record {
  alias = aliases_of (value_at (codes "alias") value);
  extensions = texts_value default_extensions (value_at (codes "extensions") value);
  main_fields = texts_value default_fields (value_at (codes "mainFields") value);
  main_files = texts_value default_files (value_at (codes "mainFiles") value);
  conditions = texts_value default_conditions (value_at (codes "conditionNames") value);
}
