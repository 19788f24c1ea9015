-- What a configuration without faults keeps: some entry, at most 16 groups, and that each group counts a chunk.
use Rattle.std.proofs.Common.{◌≡◌, ℕ, ◌≤◌, Bool, true, false, cond, ◌&&◌, leb, List, [], ◌∷◌, map, length, codes, Option, Some, None, refl, arith}
use Rattle.std.specs.List.{list_all, filter, flat_map}
use Rattle.std.specs.Option.{option_and_then, unwrap_or}
use Rattle.std.proofs.lemmas.Bool.Decides.{nat_tests}
use Rattle.std.proofs.lemmas.List.Folds.{list_all-append}
use Rattle.json_order.specs.declared.tree.JsonTree.{JsonTree}
use Rattle.json_order.specs.declared.tree.JsonPair.{JsonPair}
use Rattle.graph_types.specs.CacheGroups.{is_counted}
use Rattle.graph_types.specs.declared.cache_group.CacheGroup.{CacheGroup}
use Rattle.pack_config.specs.declared.shared.Base.{Base}
use Rattle.pack_config.specs.Entries.{entries_by, entries_in, entries_of, entry_rule}
use Rattle.pack_config.specs.Splits.{base_of, default_group, enforced, group_count, group_of, groups_by, groups_in, groups_of, groups_rule, groups_with, is_default, is_enforced, is_group, limits_of, limits_rule, member_rule, split_keys, missing_keys, most, split_by, split_object, split_of, split_rule}
use Rattle.pack_config.specs.Values.{false_or, object_with, only_false, out_of_range, object_pairs, truth_of, truth_value, value_at, where_given, whole_of, within}
use Rattle.pack_config.proofs.Least.{empty_parts}
use Rattle.pack_config.proofs.Totals.{counted}

-- ---- entries

by_pairs : (text : List ℕ) (tree : JsonTree) (pairs : Option (List JsonPair)) → entries_in pairs tree ≡ [] → 1 ≤ length (entries_by text pairs tree)
by_pairs text tree None e = omega arith
by_pairs text tree (Some []) e = cc
by_pairs text tree (Some (pair ∷ pairs)) e = omega arith

pub some_entry : (text : List ℕ) (value : Option JsonTree) → where_given entry_rule value ≡ [] → 1 ≤ length (entries_of text value)
some_entry text None e = omega arith
some_entry text (Some tree) e = by_pairs text tree (object_pairs tree) e

-- ---- at most 16 groups

under : (n m : ℕ) → leb n m ≡ true → n ≤ m
under n m e = grind (arith, nat_tests)

none_given : (text : List ℕ) (base : Base) → length (groups_with text base []) ≤ 16
none_given text base = let e = counted text base [] in omega (arith, e)

in_limit : (b : Bool) (tree : JsonTree) → cond b [] (out_of_range tree) ≡ [] → b ≡ true
in_limit true tree e = refl
in_limit false tree e = cc

by_given : (text : List ℕ) (base : Base) (tree : JsonTree) (pairs : Option (List JsonPair)) → groups_in pairs tree ≡ [] → length (groups_by text base pairs) ≤ 16
by_given text base tree None e = omega arith
by_given text base tree (Some pairs) e =
    let behind = (empty_parts (flat_map member_rule pairs) _ e).1 in
    let fits = in_limit (leb (group_count pairs) 16) tree (empty_parts (cond (leb (group_count pairs) 16) [] (out_of_range tree)) _ behind).0 in
    let few : group_count pairs ≤ 16 = under (group_count pairs) 16 fits in
    let same = counted text base pairs in omega (arith, same)

by_value : (text : List ℕ) (base : Base) (value : Option JsonTree) → where_given groups_rule value ≡ [] → length (groups_of text base value) ≤ 16
by_value text base None e = none_given text base
by_value text base (Some tree) e = by_given text base tree (object_pairs tree) e

by_truth : (text : List ℕ) (tree : JsonTree) (truth : Option Bool) → false_or split_object truth tree ≡ [] → length (split_by text truth (Some tree)) ≤ 16
by_truth text tree (Some truth) e = omega arith
by_truth text tree None e =
    let a = (empty_parts (object_with split_keys tree) _ e).1 in
    let b = (empty_parts (where_given only_false (value_at (codes "name") (Some tree))) _ a).1 in
    let c = (empty_parts (limits_rule (Some tree)) _ b).1 in
    by_value text (base_of (limits_of (Some tree))) (value_at (codes "cacheGroups") (Some tree)) c

pub few_groups : (text : List ℕ) (value : Option JsonTree) → where_given split_rule value ≡ [] → length (split_of text value) ≤ 16
few_groups text None e = none_given text (base_of (limits_of None))
few_groups text (Some tree) e = by_truth text tree (truth_of tree) e

-- ---- each group counts a chunk

by_bounds : (n d : ℕ) (b c : Bool) → leb 1 n ≡ b → leb 1 d ≡ true → leb 1 (unwrap_or (cond (b && c) (Some n) None) d) ≡ true
by_bounds n d true true is e = is
by_bounds n d true false is e = e
by_bounds n d false c is e = e

least_one : (value : Option ℕ) (d : ℕ) → leb 1 d ≡ true → leb 1 (unwrap_or (within 1 most value) d) ≡ true
least_one None d e = e
least_one (Some n) d e = by_bounds n d (leb 1 n) (leb n most) refl e

base_counts : (value : Option JsonTree) → leb 1 (base_of (limits_of value)).min_chunks ≡ true
base_counts value = least_one (option_and_then whole_of (value_at (codes "minChunks") value)) 1 refl

by_enforce : (b : Bool) (base : Base) → leb 1 base.min_chunks ≡ true → leb 1 (cond b (enforced base) base).min_chunks ≡ true
by_enforce true base e = refl
by_enforce false base e = e

group_counts : (text : List ℕ) (base : Base) → leb 1 base.min_chunks ≡ true → (pair : JsonPair) → is_counted (group_of text base pair) ≡ true
group_counts text base e pair =
    least_one (option_and_then whole_of (value_at (codes "minChunks") (Some pair.value))) (cond (is_enforced pair.value) (enforced base) base).min_chunks (by_enforce (is_enforced pair.value) base e)

by_default : (b : Bool) (n : ℕ) → leb 1 n ≡ true → leb 1 (cond b 2 n) ≡ true
by_default true n e = refl
by_default false n e = e

default_counts : (base : Base) → leb 1 base.min_chunks ≡ true → (key : List ℕ) → is_counted (default_group base key) ≡ true
default_counts base e key = by_default (is_default key) base.min_chunks e

all_counted : {X : Type 0} (f : X → CacheGroup) (xs : List X) → ((x : X) → is_counted (f x) ≡ true) → list_all is_counted (map f xs) ≡ true
all_counted f [] each = refl
all_counted f (x ∷ xs) each = let here = each x in let rest = all_counted f xs each in cc

with_counted : (text : List ℕ) (base : Base) (pairs : List JsonPair) → leb 1 base.min_chunks ≡ true → list_all is_counted (groups_with text base pairs) ≡ true
with_counted text base pairs e =
    let given = all_counted (group_of text base) (filter is_group pairs) (group_counts text base e) in
    let rest = all_counted (default_group base) (missing_keys pairs) (default_counts base e) in
    let joined = list_all-append is_counted (map (group_of text base) (filter is_group pairs)) (map (default_group base) (missing_keys pairs)) in
    cc

by_counted : (text : List ℕ) (base : Base) (pairs : Option (List JsonPair)) → leb 1 base.min_chunks ≡ true → list_all is_counted (groups_by text base pairs) ≡ true
by_counted text base None e = refl
by_counted text base (Some pairs) e = with_counted text base pairs e

of_counted : (text : List ℕ) (base : Base) (value : Option JsonTree) → leb 1 base.min_chunks ≡ true → list_all is_counted (groups_of text base value) ≡ true
of_counted text base None e = with_counted text base [] e
of_counted text base (Some tree) e = by_counted text base (object_pairs tree) e

by_split : (text : List ℕ) (truth : Option Bool) (value : Option JsonTree) → list_all is_counted (split_by text truth value) ≡ true
by_split text None value = of_counted text (base_of (limits_of value)) (value_at (codes "cacheGroups") value) (base_counts value)
by_split text (Some truth) value = refl

pub groups_counted : (text : List ℕ) (value : Option JsonTree) → list_all is_counted (split_of text value) ≡ true
groups_counted text value = by_split text (truth_value value) value
