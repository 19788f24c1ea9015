-- The groups of a configuration: their number, their names, and that each counts a chunk.
use Rattle.std.proofs.Common.{◌≡◌, ℕ, ◌+◌, ◌<◌, ◌≤◌, Bool, true, false, not, cond, List, [], ◌∷◌, ◌++◌, map, length, take, get_or, bytes_eq, codes, leb, Option, Some, refl, sym, ap, ◌∙◌, arith, length-append, append_assoc}
use Rattle.std.specs.List.{flat_map, filter, enumerate_from, list_any}
use Rattle.std.proofs.lemmas.List.{length-map, map-append}
use Rattle.std.proofs.lemmas.List.Elements.{filter-append}
use Rattle.std.proofs.lemmas.List.FromFn.{length-enumerate_from, get_or-enumerate_from}
use Rattle.json_order.specs.declared.tree.JsonPair.{JsonPair}
use Rattle.graph_types.specs.declared.cache_group.CacheGroup.{CacheGroup}
use Rattle.pack_config.specs.declared.fault.ConfigFault.{ConfigFault}
use Rattle.pack_config.specs.declared.shared.Base.{Base}
use Rattle.pack_config.specs.Splits.{default_group, group_count, group_of, groups_with, is_group, missing_keys, name_value, groups_in, member_rule, repeated_at, repeated_by, repeated_in}
use Rattle.pack_config.specs.inner.Found.{after}
use Rattle.json_order.specs.declared.tree.JsonTree.{JsonTree}
use Rattle.pack_config.specs.Values.{out_of_range}
use Rattle.pack_config.proofs.After.{after_more, each_all, each_more}

module _ (pairs : List JsonPair) (i : ℕ) (least now : Option ConfigFault)
    (before : now ≡ after least (flat_map (repeated_at pairs) (take i (enumerate_from 0 pairs)))) where
  pub repeated_more : (pair : JsonPair) (next : Option ConfigFault) → i < length pairs → pair ≡ get_or pairs i pair →
      next ≡ after now (repeated_by (take i pairs) (name_value pair)) →
      next ≡ after least (flat_map (repeated_at pairs) (take (i + 1) (enumerate_from 0 pairs)))
  repeated_more pair next within is after_pair =
      let long : i < length (enumerate_from 0 pairs) = rw (length-enumerate_from 0 pairs) within in
      let zero : 0 + i ≡ i = omega arith in
      let at = get_or-enumerate_from 0 pairs i (i, pair) within in
      let here : (i, pair) ≡ get_or (enumerate_from 0 pairs) i (i, pair) =
      sym (at ∙ ap (λ n. (n, get_or pairs i pair)) zero ∙ ap (λ (p : JsonPair). (i, p)) (sym is)) in
      each_more (enumerate_from 0 pairs) i (i, pair) long here (repeated_at pairs) least now next before after_pair

  pub repeated_all : length pairs ≤ i → now ≡ after least (repeated_in pairs)
  repeated_all long =
      let whole : length (enumerate_from 0 pairs) ≤ i = rw (length-enumerate_from 0 pairs) long in
      each_all (repeated_at pairs) (enumerate_from 0 pairs) i least now whole before

pub groups_join : (text : List ℕ) (base : Base) (one other : List JsonPair) →
    map (group_of text base) (filter is_group (one ++ other)) ≡ map (group_of text base) (filter is_group one) ++ map (group_of text base) (filter is_group other)
groups_join text base one other =
    ap (map (group_of text base)) (filter-append is_group one other) ∙ map-append (group_of text base) (filter is_group one) (filter is_group other)

by_keys : {X : Type 0} (f : List ℕ → X) (one other : List ℕ) (first second : Bool) →
    cond first (f one ∷ []) [] ++ cond second (f other ∷ []) [] ≡ map f (cond first (one ∷ cond second (other ∷ []) []) (cond second (other ∷ []) []))
by_keys f one other true true = refl
by_keys f one other true false = refl
by_keys f one other false true = refl
by_keys f one other false false = refl

pub defaults_join : (base : Base) (pairs : List JsonPair) →
    cond (not (list_any (λ pair. bytes_eq pair.key (codes "default")) pairs)) (default_group base (codes "default") ∷ []) []
    ++ cond (not (list_any (λ pair. bytes_eq pair.key (codes "defaultVendors")) pairs)) (default_group base (codes "defaultVendors") ∷ []) []
    ≡ map (default_group base) (missing_keys pairs)
defaults_join base pairs =
    by_keys (default_group base) (codes "default") (codes "defaultVendors") (not (list_any (λ pair. bytes_eq pair.key (codes "default")) pairs))
    (not (list_any (λ pair. bytes_eq pair.key (codes "defaultVendors")) pairs))

pub defaults_added : (base : Base) (pairs : List JsonPair) (old mid new : List CacheGroup) →
    mid ≡ old ++ cond (not (list_any (λ pair. bytes_eq pair.key (codes "default")) pairs)) (default_group base (codes "default") ∷ []) [] →
    new ≡ mid ++ cond (not (list_any (λ pair. bytes_eq pair.key (codes "defaultVendors")) pairs)) (default_group base (codes "defaultVendors") ∷ []) [] →
    new ≡ old ++ map (default_group base) (missing_keys pairs)
defaults_added base pairs old mid new first second =
    second ∙ ap (λ ys. ys ++ cond (not (list_any (λ pair. bytes_eq pair.key (codes "defaultVendors")) pairs)) (default_group base (codes "defaultVendors") ∷ []) []) first
    ∙ append_assoc old (cond (not (list_any (λ pair. bytes_eq pair.key (codes "default")) pairs)) (default_group base (codes "default") ∷ []) [])
    (cond (not (list_any (λ pair. bytes_eq pair.key (codes "defaultVendors")) pairs)) (default_group base (codes "defaultVendors") ∷ []) [])
    ∙ ap (λ ys. old ++ ys) (defaults_join base pairs)

pub counted : (text : List ℕ) (base : Base) (pairs : List JsonPair) → length (groups_with text base pairs) ≡ group_count pairs
counted text base pairs =
    length-append (map (group_of text base) (filter is_group pairs)) (map (default_group base) (missing_keys pairs))
    ∙ ap (λ n. n + length (map (default_group base) (missing_keys pairs))) (length-map (filter is_group pairs) (group_of text base))
    ∙ ap (λ n. length (filter is_group pairs) + n) (length-map (missing_keys pairs) (default_group base))

pub faults_join : (text : List ℕ) (base : Base) (tree : JsonTree) (pairs : List JsonPair) (groups : List CacheGroup) (old one two three : Option ConfigFault) →
    groups ≡ groups_with text base pairs → one ≡ after old (flat_map member_rule pairs) → two ≡ after one (cond (leb (length groups) 16) [] (out_of_range tree)) →
    three ≡ after two (repeated_in pairs) → three ≡ after old (groups_in (Some pairs) tree)
faults_join text base tree pairs groups old one two three is first second third =
    let members = flat_map member_rule pairs in
    let many = cond (leb (group_count pairs) 16) [] (out_of_range tree) in
    third
    ∙ ap (λ o. after o (repeated_in pairs)) (second ∙ ap (λ o. after o (cond (leb (length groups) 16) [] (out_of_range tree))) first
    ∙ ap (λ n. after (after old members) (cond (leb n 16) [] (out_of_range tree))) (ap (λ (gs : List CacheGroup). length gs) is ∙ counted text base pairs))
    ∙ sym (after_more (after old members) many (repeated_in pairs)) ∙ sym (after_more old members (many ++ repeated_in pairs))
