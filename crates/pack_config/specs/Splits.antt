-- `optimization.splitChunks` and its cache groups (webpack, "SplitChunksPlugin": the keys, the defaults, the two groups that
-- are there by default; this project: the bounds, the order of the groups, what `enforce` leaves).
use Rattle.std.specs.Prelude.{ℕ, pos, neg_ℤ, is_some, ◌+◌, Bool, true, false, not, nat_le, List, [], ◌∷◌, ◌++◌, map, take, length, codes, bytes_eq, flat_map, Option, Some, None, option_and_then, if◌then◌else◌}
use Rattle.std.specs.List.{list_any, filter, enumerate_from}
use Rattle.std.specs.Option.{unwrap_or, option_or}
use Rattle.fault_place.specs.declared.place.Spot.{Spot}
use Rattle.fault_place.specs.Place.{spot_at}
use Rattle.graph_types.specs.declared.cache_group.CacheGroup.{CacheGroup}
use Rattle.graph_types.specs.declared.cache_group.Select.{Select}
use Rattle.graph_types.specs.declared.cache_group.Select.TheVariants as select
use Rattle.graph_types.specs.declared.condition.Condition.{Condition}
use Rattle.graph_types.specs.declared.condition.Condition.TheVariants as condition
use Rattle.json_order.specs.declared.tree.JsonTree.{JsonTree}
use Rattle.json_order.specs.declared.tree.JsonPair.{JsonPair}
use Rattle.path_text.specs.Path.{is_normal}
use Rattle.pack_config.specs.declared.fault.ConfigFault.{ConfigFault}
use Rattle.pack_config.specs.declared.fault.ConfigKind.TheVariants.{Repeated}
use Rattle.pack_config.specs.declared.shared.Base.{Base}
use Rattle.pack_config.specs.declared.shared.Limits.{Limits}
use Rattle.pack_config.specs.Conditions.{condition_of, condition_rule, nothing}
use Rattle.pack_config.specs.Faults.{config_fault}
use Rattle.pack_config.specs.Values.{any_truth, false_or, object_with, one_of, only_false, out_of_range, object_pairs, signed, signed_value, text_of, text_value, truth_of, truth_value, value_at, where_given, whole, whole_value, wrong_type}

-- ---- what `splitChunks` and each group may say

abbrev pub most : ℕ
most = 4_294_967_295

abbrev pub limit_keys : List (List ℕ)
limit_keys = codes "chunks" ∷ codes "minSize" ∷ codes "minChunks" ∷ codes "maxAsyncRequests" ∷ codes "maxInitialRequests" ∷ codes "enforceSizeThreshold" ∷ codes "name" ∷ []

abbrev pub limits_rule : Option JsonTree → List ConfigFault
limits_rule parent =
    where_given (one_of (codes "async" ∷ codes "initial" ∷ codes "all" ∷ [])) (value_at (codes "chunks") parent)
    ++ (where_given (whole 0 most) (value_at (codes "minSize") parent)
    ++ (where_given (whole 1 most) (value_at (codes "minChunks") parent)
    ++ (where_given (whole 1 most) (value_at (codes "maxAsyncRequests") parent)
    ++ (where_given (whole 1 most) (value_at (codes "maxInitialRequests") parent)
    ++ where_given (whole 0 most) (value_at (codes "enforceSizeThreshold") parent)))))

abbrev pub select_in : List ℕ → Option Select
select_in text =
    if bytes_eq text (codes "async") then Some select.Async
    else (if bytes_eq text (codes "initial") then Some select.Initial
    else (if bytes_eq text (codes "all") then Some select.All
    else None))

abbrev pub limits_of : Option JsonTree → Limits
limits_of parent = record {
  select = option_and_then select_in (text_value (value_at (codes "chunks") parent));
  min_size = whole_value 0 most (value_at (codes "minSize") parent);
  min_chunks = whole_value 1 most (value_at (codes "minChunks") parent);
  max_async = whole_value 1 most (value_at (codes "maxAsyncRequests") parent);
  max_initial = whole_value 1 most (value_at (codes "maxInitialRequests") parent);
  threshold = whole_value 0 most (value_at (codes "enforceSizeThreshold") parent);
}

-- what `splitChunks` says, else the default
abbrev pub base_of : Limits → Base
base_of limits = record {
  select = unwrap_or limits.select select.Async;
  min_size = unwrap_or limits.min_size 20_000;
  min_chunks = unwrap_or limits.min_chunks 1;
  max_async = Some (unwrap_or limits.max_async 30);
  max_initial = Some (unwrap_or limits.max_initial 30);
  threshold = Some (unwrap_or limits.threshold 50_000);
}

-- `enforce` leaves a group only the limits that it has itself
abbrev pub enforced : Base → Base
enforced base = record { select = base.select; min_size = 0; min_chunks = 1; max_async = None; max_initial = None; threshold = None }

-- ---- one group

abbrev pub group_keys : List (List ℕ)
group_keys = limit_keys ++ (codes "test" ∷ codes "enforce" ∷ codes "reuseExistingChunk" ∷ codes "priority" ∷ [])

abbrev pub name_in : Option (List ℕ) → JsonTree → List ConfigFault
name_in None tree = only_false tree
name_in (Some name) tree = if is_normal name then [] else out_of_range tree

-- `false`, or a normal path
abbrev pub name_rule : JsonTree → List ConfigFault
name_rule tree = name_in (text_of tree) tree

abbrev pub group_rule : JsonTree → List ConfigFault
group_rule tree =
    object_with group_keys tree
    ++ (limits_rule (Some tree)
    ++ (where_given name_rule (value_at (codes "name") (Some tree))
    ++ (where_given condition_rule (value_at (codes "test") (Some tree))
    ++ (where_given any_truth (value_at (codes "enforce") (Some tree))
    ++ (where_given any_truth (value_at (codes "reuseExistingChunk") (Some tree))
    ++ where_given signed (value_at (codes "priority") (Some tree)))))))

abbrev pub first_spot : Spot
first_spot = record { offset = 0; line = 1; column = 1 }

-- the place of the name, where there is one
abbrev pub name_spot : List ℕ → Option (List ℕ) → Option JsonTree → Spot
name_spot text name None = first_spot
name_spot text None (Some tree) = first_spot
name_spot text (Some name) (Some tree) = spot_at text tree.at

abbrev pub test_of : Option JsonTree → Condition
test_of None = nothing
test_of (Some tree) = condition_of tree

abbrev pub is_enforced : JsonTree → Bool
is_enforced tree = unwrap_or (truth_value (value_at (codes "enforce") (Some tree))) false

-- a value that the group doesn't have is that of the base
abbrev pub group_with : List ℕ → Base → Limits → List ℕ → JsonTree → CacheGroup
group_with text base own key tree = record {
  key = key;
  name = text_value (value_at (codes "name") (Some tree));
  name_at = name_spot text (text_value (value_at (codes "name") (Some tree))) (value_at (codes "name") (Some tree));
  test = test_of (value_at (codes "test") (Some tree));
  select = unwrap_or own.select base.select;
  min_size = unwrap_or own.min_size base.min_size;
  min_chunks = unwrap_or own.min_chunks base.min_chunks;
  max_async = option_or own.max_async base.max_async;
  max_initial = option_or own.max_initial base.max_initial;
  threshold = if is_enforced tree then None else option_or own.threshold base.threshold;
  priority = unwrap_or (signed_value (value_at (codes "priority") (Some tree))) (pos 0);
  reuse = unwrap_or (truth_value (value_at (codes "reuseExistingChunk") (Some tree))) false;
}

abbrev pub group_of : List ℕ → Base → JsonPair → CacheGroup
group_of text base pair =
    group_with text (if is_enforced pair.value then enforced base else base) (limits_of (Some pair.value)) pair.key pair.value

-- ---- all groups

-- `false` removes a group
abbrev pub is_group : JsonPair → Bool
is_group pair = is_some (object_pairs pair.value)

abbrev pub member_in : Option (List JsonPair) → JsonTree → List ConfigFault
member_in None tree = only_false tree
member_in (Some pairs) tree = group_rule tree

-- `false`, or a group
abbrev pub member_rule : JsonPair → List ConfigFault
member_rule pair = member_in (object_pairs pair.value) pair.value

-- the keys of the two default groups that aren't given
abbrev pub default_keys : List (List ℕ)
default_keys = codes "default" ∷ codes "defaultVendors" ∷ []

abbrev pub missing_keys : List JsonPair → List (List ℕ)
missing_keys pairs = filter (λ key. not (list_any (λ pair. bytes_eq pair.key key) pairs)) default_keys

abbrev pub is_default : List ℕ → Bool
is_default key = bytes_eq key (codes "default")

abbrev pub vendors : Condition
vendors = condition.InDir (codes "node_modules")

abbrev pub default_group : Base → List ℕ → CacheGroup
default_group base key = record {
  key = key;
  name = None;
  name_at = first_spot;
  test = if is_default key then nothing else vendors;
  select = base.select;
  min_size = base.min_size;
  min_chunks = if is_default key then 2 else base.min_chunks;
  max_async = base.max_async;
  max_initial = base.max_initial;
  threshold = base.threshold;
  priority = if is_default key then neg_ℤ (pos 20) else neg_ℤ (pos 10);
  reuse = true;
}

-- those given in their order, then the default ones
abbrev pub groups_with : List ℕ → Base → List JsonPair → List CacheGroup
groups_with text base pairs = map (group_of text base) (filter is_group pairs) ++ map (default_group base) (missing_keys pairs)

abbrev pub groups_by : List ℕ → Base → Option (List JsonPair) → List CacheGroup
groups_by text base None = []
groups_by text base (Some pairs) = groups_with text base pairs

abbrev pub groups_of : List ℕ → Base → Option JsonTree → List CacheGroup
groups_of text base None = groups_with text base []
groups_of text base (Some tree) = groups_by text base (object_pairs tree)

-- the default ones among them
abbrev pub group_count : List JsonPair → ℕ
group_count pairs = length (filter is_group pairs) + length (missing_keys pairs)

abbrev pub group_limit : ℕ
group_limit = 16

-- the value of a group's name
abbrev pub name_value : JsonPair → Option JsonTree
name_value pair = value_at (codes "name") (Some pair.value)

abbrev pub is_text : List ℕ → Option (List ℕ) → Bool
is_text name None = false
is_text name (Some text) = bytes_eq text name

abbrev pub has_name : List ℕ → JsonPair → Bool
has_name name pair = is_text name (text_value (name_value pair))

-- a name that a group before has
abbrev pub repeated_as : List JsonPair → Option (List ℕ) → JsonTree → List ConfigFault
repeated_as earlier None tree = []
repeated_as earlier (Some name) tree = if list_any (has_name name) earlier then config_fault Repeated tree.at ∷ [] else []

abbrev pub repeated_by : List JsonPair → Option JsonTree → List ConfigFault
repeated_by earlier None = []
repeated_by earlier (Some tree) = repeated_as earlier (text_of tree) tree

abbrev pub repeated_at : List JsonPair → ℕ × JsonPair → List ConfigFault
repeated_at pairs numbered = repeated_by (take numbered.0 pairs) (name_value numbered.1)

abbrev pub repeated_in : List JsonPair → List ConfigFault
repeated_in pairs = flat_map (repeated_at pairs) (enumerate_from 0 pairs)

abbrev pub groups_in : Option (List JsonPair) → JsonTree → List ConfigFault
groups_in None tree = wrong_type tree
groups_in (Some pairs) tree =
    flat_map member_rule pairs
    ++ ((if nat_le (group_count pairs) group_limit then [] else out_of_range tree)
    ++ repeated_in pairs)

abbrev pub groups_rule : JsonTree → List ConfigFault
groups_rule tree = groups_in (object_pairs tree) tree

-- ---- splitChunks

abbrev pub split_keys : List (List ℕ)
split_keys = limit_keys ++ (codes "cacheGroups" ∷ [])

abbrev pub split_object : JsonTree → List ConfigFault
split_object tree =
    object_with split_keys tree
    ++ (where_given only_false (value_at (codes "name") (Some tree))
    ++ (limits_rule (Some tree)
    ++ where_given groups_rule (value_at (codes "cacheGroups") (Some tree))))

-- `false`, or an object
abbrev pub split_rule : JsonTree → List ConfigFault
split_rule tree = false_or split_object (truth_of tree) tree

abbrev pub all_groups : List ℕ → Option JsonTree → List CacheGroup
all_groups text value = groups_of text (base_of (limits_of value)) (value_at (codes "cacheGroups") value)

-- there is no group where a truth value stands
abbrev pub split_by : List ℕ → Option Bool → Option JsonTree → List CacheGroup
split_by text None value = all_groups text value
split_by text (Some truth) value = []

abbrev pub split_of : List ℕ → Option JsonTree → List CacheGroup
split_of text value = split_by text (truth_value value) value
