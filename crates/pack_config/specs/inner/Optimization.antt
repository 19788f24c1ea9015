-- What is read of `optimization`.
use Rattle.std.specs.Prelude.{ℕ, List, true, codes, Option}
use Rattle.std.specs.Option.{unwrap_or}
use Rattle.json_order.specs.declared.tree.JsonTree.{JsonTree}
use Rattle.pack_config.specs.declared.reading.Optimization.{Optimization}
use Rattle.pack_config.specs.Grammar.{is_named}
use Rattle.pack_config.specs.Splits.{split_of}
use Rattle.pack_config.specs.Values.{text_value, truth_value, value_at}

abbrev pub optimization_of : List ℕ → Option JsonTree → Optimization
optimization_of text value = record {
  named_ids = is_named (text_value (value_at (codes "moduleIds") value));
  merge_equal = unwrap_or (truth_value (value_at (codes "mergeDuplicateChunks") value)) true;
  drop_empty = unwrap_or (truth_value (value_at (codes "removeEmptyChunks") value)) true;
  cache_groups = split_of text (value_at (codes "splitChunks") value);
}
