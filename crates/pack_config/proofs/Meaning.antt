-- What one level of a condition's tree means.
use Rattle.std.proofs.Common.{◌≡◌, ℕ, ◌++◌, List, [], ◌∷◌, map, Option, Some, None, refl, sym, ap, ◌∙◌, rules}
use Rattle.std.specs.List.{flat_map}
use Rattle.std.specs.Prelude.{filter_map}
use Rattle.std.proofs.lemmas.List.Folds.{flat_map-map}
use Rattle.graph_types.specs.declared.condition.Condition.{Condition}
use Rattle.graph_types.specs.declared.condition.Condition.TheVariants as condition
use Rattle.json_order.specs.declared.tree.JsonTree.{JsonTree}
use Rattle.json_order.specs.declared.tree.JsonPair.{JsonPair}
use Rattle.json_order.specs.declared.tree.JsonNode.{JsonNode}
use Rattle.json_order.specs.declared.tree.JsonNode.TheVariants as node
use Rattle.json_order.specs.declared.tree.JsonNode.TheOpen as open_node
use Rattle.json_order.specs.declared.tree.JsonNode.TheFolds.{fold_out-JsonTree, fold_out-JsonPair, fold_out-JsonNode, fold-JsonNode, fold-JsonPair}
use Rattle.json_order.specs.declared.tree.JsonNode.TheViews.{the_lemmas}
use Rattle.pack_config.specs.declared.fault.ConfigFault.{ConfigFault}
use Rattle.pack_config.specs.inner.Found.{after}
use Rattle.pack_config.proofs.After.{after_more}
use Rattle.pack_config.specs.Conditions.{Meanings, Named, condition_at, condition_of, condition_rule, meanings_in, meanings_of, member_of, named_faults, only_of}

abbrev pub node_meanings : JsonNode → ℕ → Meanings
node_meanings = fold-JsonNode (ℕ → Meanings) Named Meanings meanings_in
    (λ pair. record { key = pair.key; key_at = pair.key_at; meanings = pair.value }) (λ tree. tree.node tree.at)

abbrev pair_meanings : JsonPair → Named
pair_meanings = fold-JsonPair (ℕ → Meanings) Named Meanings meanings_in
    (λ pair. record { key = pair.key; key_at = pair.key_at; meanings = pair.value }) (λ tree. tree.node tree.at)

tree_fold : (tree : JsonTree) → meanings_of tree ≡ node_meanings tree.node tree.at
tree_fold tree = fold_out-JsonTree (ℕ → Meanings) Named Meanings meanings_in
    (λ pair. record { key = pair.key; key_at = pair.key_at; meanings = pair.value }) (λ tree. tree.node tree.at) tree

pair_fold : (pair : JsonPair) → pair_meanings pair ≡ member_of pair
pair_fold pair = fold_out-JsonPair (ℕ → Meanings) Named Meanings meanings_in
    (λ pair. record { key = pair.key; key_at = pair.key_at; meanings = pair.value }) (λ tree. tree.node tree.at) pair

map_same : {X Y : Type 0} (f g : X → Y) (xs : List X) → ((x : X) → f x ≡ g x) → map f xs ≡ map g xs
map_same f g [] e = refl
map_same f g (x ∷ xs) e = ap (λ y. y ∷ map f xs) (e x) ∙ ap (λ ys. g x ∷ ys) (map_same f g xs e)

list_fold : (items : List JsonTree) → node_meanings (node.List items) ≡ meanings_in (open_node.List (map meanings_of items))
list_fold items = search (rules, the_lemmas, fold_out-JsonNode)

object_fold : (pairs : List JsonPair) → node_meanings (node.Object pairs) ≡ meanings_in (open_node.Object (map pair_meanings pairs))
object_fold pairs = search (rules, the_lemmas, fold_out-JsonNode)

pub list_meant : (tree : JsonTree) (items : List JsonTree) → tree.node ≡ node.List items → meanings_of tree ≡ meanings_in (open_node.List (map meanings_of items)) tree.at
list_meant tree items e = tree_fold tree ∙ ap (λ n. node_meanings n tree.at) e ∙ ap (λ m. m tree.at) (list_fold items)

pub object_meant_by : (tree : JsonTree) (pairs : List JsonPair) → tree.node ≡ node.Object pairs → meanings_of tree ≡ meanings_in (open_node.Object (map member_of pairs)) tree.at
object_meant_by tree pairs e =
    tree_fold tree ∙ ap (λ n. node_meanings n tree.at) e ∙ ap (λ m. m tree.at) (object_fold pairs)
    ∙ ap (λ members. meanings_in (open_node.Object members) tree.at) (map_same pair_meanings member_of pairs pair_fold)

map_map : {X Y Z : Type 0} (g : Y → Z) (f : X → Y) (xs : List X) → map g (map f xs) ≡ map (λ x. g (f x)) xs
map_map g f [] = refl
map_map g f (x ∷ xs) = ap (λ ys. g (f x) ∷ ys) (map_map g f xs)

pub list_faults : (tree : JsonTree) (items : List JsonTree) → tree.node ≡ node.List items → flat_map condition_rule items ≡ (meanings_of tree).one.faults
list_faults tree items e = sym (ap (λ m. m.one.faults) (list_meant tree items e) ∙ flat_map-map (λ item. item.one.faults) meanings_of items)

pub list_value : (tree : JsonTree) (items : List JsonTree) → tree.node ≡ node.List items → condition.Or (map condition_of items) ≡ (meanings_of tree).one.value
list_value tree items e = sym (ap (λ m. m.one.value) (list_meant tree items e) ∙ ap (λ all. condition.Or all) (map_map (λ item. item.one.value) meanings_of items))

pub many_faults : (tree : JsonTree) (items : List JsonTree) → tree.node ≡ node.List items → flat_map condition_rule items ≡ (meanings_of tree).many.faults
many_faults tree items e = sym (ap (λ m. m.many.faults) (list_meant tree items e) ∙ flat_map-map (λ item. item.one.faults) meanings_of items)

pub many_value : (tree : JsonTree) (items : List JsonTree) → tree.node ≡ node.List items → map condition_of items ≡ (meanings_of tree).many.value
many_value tree items e = sym (ap (λ m. m.many.value) (list_meant tree items e) ∙ map_map (λ item. item.one.value) meanings_of items)

kept_map_by : {X Y Z : Type 0} (h : Y → Option Z) (f : X → Y) (x : X) (xs : List X) (found : Option Z) → h (f x) ≡ found →
    filter_map h (map f xs) ≡ filter_map (λ y. h (f y)) xs → filter_map h (map f (x ∷ xs)) ≡ filter_map (λ y. h (f y)) (x ∷ xs)
kept_map_by h f x xs None is e = rw is e
kept_map_by h f x xs (Some z) is e = rw is (ap (λ zs. z ∷ zs) e)

kept_map : {X Y Z : Type 0} (h : Y → Option Z) (f : X → Y) (xs : List X) → filter_map h (map f xs) ≡ filter_map (λ x. h (f x)) xs
kept_map h f [] = refl
kept_map h f (x ∷ xs) = kept_map_by h f x xs (h (f x)) refl (kept_map h f xs)

pub object_is : (tree : JsonTree) (pairs : List JsonPair) → tree.node ≡ node.Object pairs →
    (meanings_of tree).one ≡ record {
      value = (only_of tree.at (filter_map (λ pair. condition_at (member_of pair)) pairs)).value;
      faults = flat_map (λ pair. named_faults (member_of pair)) pairs ++ (only_of tree.at (filter_map (λ pair. condition_at (member_of pair)) pairs)).faults;
    }
object_is tree pairs e =
    ap (λ m. m.one) (object_meant_by tree pairs e)
    ∙ ap (λ all. record { value = (only_of tree.at all).value; faults = flat_map named_faults (map member_of pairs) ++ (only_of tree.at all).faults }) (kept_map condition_at member_of pairs)
    ∙ ap (λ all. record {
      value = (only_of tree.at (filter_map (λ pair. condition_at (member_of pair)) pairs)).value;
      faults = all ++ (only_of tree.at (filter_map (λ pair. condition_at (member_of pair)) pairs)).faults;
    }) (flat_map-map named_faults member_of pairs)

module _ (tree : JsonTree) (pairs slice : List JsonPair) (conditions : List Condition) (is : tree.node ≡ node.Object pairs) (is_slice : slice ≡ pairs)
    (are : conditions ≡ filter_map (λ pair. condition_at (member_of pair)) slice) where
  whole : (meanings_of tree).one ≡ record {
    value = (only_of tree.at conditions).value;
    faults = flat_map (λ pair. named_faults (member_of pair)) slice ++ (only_of tree.at conditions).faults;
  }
  whole =
      object_is tree pairs is
      ∙ ap (λ ps. record {
        value = (only_of tree.at (filter_map (λ pair. condition_at (member_of pair)) ps)).value;
        faults = flat_map (λ pair. named_faults (member_of pair)) ps ++ (only_of tree.at (filter_map (λ pair. condition_at (member_of pair)) ps)).faults;
      }) (sym is_slice)
      ∙ ap (λ all. record {
        value = (only_of tree.at all).value;
        faults = flat_map (λ pair. named_faults (member_of pair)) slice ++ (only_of tree.at all).faults;
      }) (sym are)

  pub object_faults_by : (old mid new : Option ConfigFault) → mid ≡ after old (flat_map (λ pair. named_faults (member_of pair)) slice) →
      new ≡ after mid (only_of tree.at conditions).faults → new ≡ after old (meanings_of tree).one.faults
  object_faults_by old mid new first second =
      second ∙ ap (λ o. after o (only_of tree.at conditions).faults) first
      ∙ sym (after_more old (flat_map (λ pair. named_faults (member_of pair)) slice) (only_of tree.at conditions).faults)
      ∙ ap (after old) (sym (ap (λ m. m.faults) whole))

  pub object_value_by : (result : Condition) → result ≡ (only_of tree.at conditions).value → result ≡ (meanings_of tree).one.value
  object_value_by result e = e ∙ sym (ap (λ m. m.value) whole)
