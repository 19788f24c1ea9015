-- The conditions of cache groups (this project, in place of the regular expressions of webpack's `cacheGroups.test`).
use Rattle.std.specs.Prelude.{ℕ, List, [], ◌∷◌, ◌++◌, map, codes, bytes_eq, filter_map, flat_map, Option, Some, None, option_map, if◌then◌else◌}
use Rattle.graph_types.specs.declared.condition.Condition.{Condition}
use Rattle.graph_types.specs.declared.condition.Condition.TheVariants as condition
use Rattle.json_order.specs.declared.tree.JsonTree.{JsonTree}
use Rattle.json_order.specs.declared.tree.JsonPair.{JsonPair}
use Rattle.json_order.specs.declared.tree.JsonNode.TheOpen as open_node
use Rattle.json_order.specs.declared.tree.JsonNode.TheOpen.{JsonNode-F}
use Rattle.json_order.specs.declared.tree.JsonNode.TheFolds.{fold-JsonTree}
use Rattle.pack_config.specs.declared.fault.ConfigFault.{ConfigFault}
use Rattle.pack_config.specs.declared.fault.ConfigKind.TheVariants.{UnknownKey, WrongType}
use Rattle.pack_config.specs.Faults.{config_fault}

-- what a value stands for, and its faults
pub record Meant (X : Type 0) : Type 0 where
  pub value : X
  pub faults : List ConfigFault

abbrev pub meant : {X : Type 0} → X → List ConfigFault → Meant X
meant value faults = record { value = value; faults = faults }

-- a value as a condition, as a list of conditions and as a text
pub record Meanings : Type 0 where
  pub one : Meant Condition
  pub many : Meant (List Condition)
  pub text : Meant (List ℕ)

-- a member of an object
pub record Named : Type 0 where
  pub key : List ℕ
  pub key_at : ℕ
  pub meanings : Meanings

abbrev pub wrong_at : ℕ → List ConfigFault
wrong_at at = config_fault WrongType at ∷ []

-- the condition that always holds
abbrev pub nothing : Condition
nothing = condition.And []

-- what a member of an object means, by its key; another key isn't known
abbrev pub known_meaning : Named → Option (Meant Condition)
known_meaning member =
    if bytes_eq member.key (codes "prefix") then Some (meant (condition.Prefix member.meanings.text.value) member.meanings.text.faults)
    else (if bytes_eq member.key (codes "contains") then Some (meant (condition.Contains member.meanings.text.value) member.meanings.text.faults)
    else (if bytes_eq member.key (codes "endsWith") then Some (meant (condition.EndsWith member.meanings.text.value) member.meanings.text.faults)
    else (if bytes_eq member.key (codes "inDir") then Some (meant (condition.InDir member.meanings.text.value) member.meanings.text.faults)
    else (if bytes_eq member.key (codes "and") then Some (meant (condition.And member.meanings.many.value) member.meanings.many.faults)
    else (if bytes_eq member.key (codes "or") then Some (meant (condition.Or member.meanings.many.value) member.meanings.many.faults)
    else (if bytes_eq member.key (codes "not") then Some (meant (condition.Not member.meanings.one.value) member.meanings.one.faults)
    else None))))))

abbrev pub condition_at : Named → Option Condition
condition_at member = option_map (λ condition. condition.value) (known_meaning member)

abbrev pub faults_or_unknown : Option (Meant Condition) → Named → List ConfigFault
faults_or_unknown None member = config_fault UnknownKey member.key_at ∷ []
faults_or_unknown (Some condition) member = condition.faults

abbrev pub named_faults : Named → List ConfigFault
named_faults member = faults_or_unknown (known_meaning member) member

-- exactly one member counts
abbrev pub only_of : ℕ → List Condition → Meant Condition
only_of at [] = meant nothing (wrong_at at)
only_of at (first ∷ []) = meant first []
only_of at (first ∷ second ∷ rest) = meant nothing (wrong_at at)

abbrev pub conditions_of : List Named → List Condition
conditions_of members = filter_map condition_at members

abbrev pub object_meant : ℕ → List Named → Meant Condition
object_meant at members =
    let only = only_of at (conditions_of members) in
    meant only.value (flat_map named_faults members ++ only.faults)

-- one level, at an offset, with what the values inside mean in their places
abbrev pub meanings_in : JsonNode-F (ℕ → Meanings) Named Meanings → ℕ → Meanings
meanings_in open_node.Null at = record { one = meant nothing (wrong_at at); many = meant [] (wrong_at at); text = meant [] (wrong_at at) }
meanings_in (open_node.Bool truth) at = record { one = meant nothing (wrong_at at); many = meant [] (wrong_at at); text = meant [] (wrong_at at) }
meanings_in (open_node.Number word) at = record { one = meant nothing (wrong_at at); many = meant [] (wrong_at at); text = meant [] (wrong_at at) }
meanings_in (open_node.Str text) at = record { one = meant (condition.Prefix text) []; many = meant [] (wrong_at at); text = meant text [] }
meanings_in (open_node.List items) at = record {
  one = meant (condition.Or (map (λ item. item.one.value) items)) (flat_map (λ item. item.one.faults) items);
  many = meant (map (λ item. item.one.value) items) (flat_map (λ item. item.one.faults) items);
  text = meant [] (wrong_at at);
}
meanings_in (open_node.Object members) at = record { one = object_meant at members; many = meant [] (wrong_at at); text = meant [] (wrong_at at) }

abbrev pub meanings_of : JsonTree → Meanings
meanings_of = fold-JsonTree (ℕ → Meanings) Named Meanings meanings_in
    (λ pair. record { key = pair.key; key_at = pair.key_at; meanings = pair.value }) (λ tree. tree.node tree.at)

-- a pair as a member whose meanings are those of its value
abbrev pub member_of : JsonPair → Named
member_of pair = record { key = pair.key; key_at = pair.key_at; meanings = meanings_of pair.value }

abbrev pub condition_of : JsonTree → Condition
condition_of tree = (meanings_of tree).one.value

abbrev pub condition_rule : JsonTree → List ConfigFault
condition_rule tree = (meanings_of tree).one.faults
