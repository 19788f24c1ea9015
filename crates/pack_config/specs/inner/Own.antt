-- What is read of a group beside its limits, and how both make the group.
use Rattle.std.specs.Prelude.{ℕ, pos, List, false, ◌++◌, codes, Some, None, if◌then◌else◌}
use Rattle.std.specs.Option.{unwrap_or, option_or}
use Rattle.graph_types.specs.declared.cache_group.CacheGroup.{CacheGroup}
use Rattle.json_order.specs.declared.tree.JsonTree.{JsonTree}
use Rattle.pack_config.specs.declared.fault.ConfigFault.{ConfigFault}
use Rattle.pack_config.specs.declared.group.Own.{Own}
use Rattle.pack_config.specs.declared.shared.Base.{Base}
use Rattle.pack_config.specs.declared.shared.Limits.{Limits}
use Rattle.pack_config.specs.Conditions.{condition_rule}
use Rattle.pack_config.specs.Splits.{enforced, is_enforced, name_rule, name_spot, test_of}
use Rattle.pack_config.specs.Values.{any_truth, signed, signed_value, text_value, truth_value, value_at, where_given}

abbrev pub own_rule : JsonTree → List ConfigFault
own_rule tree =
    where_given name_rule (value_at (codes "name") (Some tree))
    ++ (where_given condition_rule (value_at (codes "test") (Some tree))
    ++ (where_given any_truth (value_at (codes "enforce") (Some tree))
    ++ (where_given any_truth (value_at (codes "reuseExistingChunk") (Some tree))
    ++ where_given signed (value_at (codes "priority") (Some tree)))))

abbrev pub own_of : List ℕ → JsonTree → Own
own_of text tree = record {
  test = test_of (value_at (codes "test") (Some tree));
  name = text_value (value_at (codes "name") (Some tree));
  name_at = name_spot text (text_value (value_at (codes "name") (Some tree))) (value_at (codes "name") (Some tree));
  enforce = is_enforced tree;
  reuse = unwrap_or (truth_value (value_at (codes "reuseExistingChunk") (Some tree))) false;
  priority = unwrap_or (signed_value (value_at (codes "priority") (Some tree))) (pos 0);
}

abbrev pub combined_with : List ℕ → Own → Limits → Base → CacheGroup
combined_with key own limits base = record {
  key = key;
  name = own.name;
  name_at = own.name_at;
  test = own.test;
  select = unwrap_or limits.select base.select;
  min_size = unwrap_or limits.min_size base.min_size;
  min_chunks = unwrap_or limits.min_chunks base.min_chunks;
  max_async = option_or limits.max_async base.max_async;
  max_initial = option_or limits.max_initial base.max_initial;
  threshold = if own.enforce then None else option_or limits.threshold base.threshold;
  priority = own.priority;
  reuse = own.reuse;
}

abbrev pub combined : List ℕ → Own → Limits → Base → CacheGroup
combined key own limits base = combined_with key own limits (if own.enforce then enforced base else base)
