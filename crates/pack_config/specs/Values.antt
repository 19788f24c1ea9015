-- The kinds of value that keys want, each with the faults of a JSON value that is to be of it and with what the value is
-- (this project). A value that isn't there has no fault.
use Rattle.std.specs.Prelude.{ℕ, ℤ, pos, neg_ℤ, ◌==◌, ◌&&◌, Bool, true, false, not, nat_le, List, [], ◌∷◌, drop, slice_index, bytes_eq, find, filter_map, flat_map, Option, Some, None, option_map, option_and_then, if◌then◌else◌}
use Rattle.std.specs.List.{list_any}
use Rattle.std.specs.Option.{unwrap_or}
use Rattle.std.specs.Str.{all_ascii_digits}
use Rattle.std.specs.Str.Parse.{digits_value}
use Rattle.json_order.specs.declared.tree.JsonTree.{JsonTree}
use Rattle.json_order.specs.declared.tree.JsonPair.{JsonPair}
use Rattle.json_order.specs.declared.tree.JsonNode.{out-JsonNode}
use Rattle.json_order.specs.declared.tree.JsonNode.TheOpen as open_node
use Rattle.json_order.specs.declared.tree.JsonNode.TheOpen.{JsonNode-F}
use Rattle.pack_config.specs.declared.fault.ConfigFault.{ConfigFault}
use Rattle.pack_config.specs.declared.fault.ConfigKind.TheVariants.{UnknownKey, WrongType, OutOfRange}
use Rattle.pack_config.specs.Faults.{config_fault}

-- ---- what a JSON value is

abbrev pub truth_in : {N P T : Type 0} → JsonNode-F N P T → Option Bool
truth_in (open_node.Bool value) = Some value
truth_in _ = None

abbrev pub number_in : {N P T : Type 0} → JsonNode-F N P T → Option (List ℕ)
number_in (open_node.Number word) = Some word
number_in _ = None

abbrev pub text_in : {N P T : Type 0} → JsonNode-F N P T → Option (List ℕ)
text_in (open_node.Str text) = Some text
text_in _ = None

abbrev pub items_in : {N P T : Type 0} → JsonNode-F N P T → Option (List T)
items_in (open_node.List items) = Some items
items_in _ = None

abbrev pub pairs_in : {N P T : Type 0} → JsonNode-F N P T → Option (List P)
pairs_in (open_node.Object pairs) = Some pairs
pairs_in _ = None

abbrev pub truth_of : JsonTree → Option Bool
truth_of tree = truth_in (out-JsonNode tree.node)

abbrev pub number_word : JsonTree → Option (List ℕ)
number_word tree = number_in (out-JsonNode tree.node)

abbrev pub text_of : JsonTree → Option (List ℕ)
text_of tree = text_in (out-JsonNode tree.node)

abbrev pub items_of : JsonTree → Option (List JsonTree)
items_of tree = items_in (out-JsonNode tree.node)

abbrev pub object_pairs : JsonTree → Option (List JsonPair)
object_pairs tree = pairs_in (out-JsonNode tree.node)

-- the members of an object, none of another value
abbrev pub members_of : JsonTree → List JsonPair
members_of tree = unwrap_or (object_pairs tree) []

-- the value of a member, where there is an object that has it
abbrev pub value_at : List ℕ → Option JsonTree → Option JsonTree
value_at key None = None
value_at key (Some tree) = option_map (λ pair. pair.value) (find (λ pair. bytes_eq pair.key key) (members_of tree))

-- ---- faults at a value

abbrev pub wrong_type : JsonTree → List ConfigFault
wrong_type tree = config_fault WrongType tree.at ∷ []

abbrev pub out_of_range : JsonTree → List ConfigFault
out_of_range tree = config_fault OutOfRange tree.at ∷ []

-- a rule says which faults a value has that a key wants to be of some kind
abbrev pub where_given : (JsonTree → List ConfigFault) → Option JsonTree → List ConfigFault
where_given rule None = []
where_given rule (Some tree) = rule tree

-- of the type that is wanted, and among the allowed values
abbrev pub checked : {X : Type 0} → (X → Bool) → Option X → JsonTree → List ConfigFault
checked allowed None tree = wrong_type tree
checked allowed (Some value) tree = if allowed value then [] else out_of_range tree

abbrev pub any_text : JsonTree → List ConfigFault
any_text tree = checked (λ text. true) (text_of tree) tree

abbrev pub one_of : List (List ℕ) → JsonTree → List ConfigFault
one_of allowed tree = checked (λ text. list_any (λ word. bytes_eq word text) allowed) (text_of tree) tree

abbrev pub any_truth : JsonTree → List ConfigFault
any_truth tree = checked (λ truth. true) (truth_of tree) tree

abbrev pub only_false : JsonTree → List ConfigFault
only_false tree = checked not (truth_of tree) tree

-- `false`, or what another rule says
abbrev pub false_or : (JsonTree → List ConfigFault) → Option Bool → JsonTree → List ConfigFault
false_or rule None tree = rule tree
false_or rule (Some truth) tree = if truth then out_of_range tree else []

-- a list of values that another rule speaks of
abbrev pub each_of : (JsonTree → List ConfigFault) → Option (List JsonTree) → JsonTree → List ConfigFault
each_of rule None tree = wrong_type tree
each_of rule (Some items) tree = flat_map rule items

abbrev pub any_texts : JsonTree → List ConfigFault
any_texts tree = each_of any_text (items_of tree) tree

-- a key that is listed
abbrev pub is_listed : List (List ℕ) → List ℕ → Bool
is_listed keys key = list_any (λ listed. bytes_eq listed key) keys

abbrev pub unknown_key : List (List ℕ) → JsonPair → List ConfigFault
unknown_key keys pair = if is_listed keys pair.key then [] else config_fault UnknownKey pair.key_at ∷ []

-- an object with these keys and no other
abbrev pub keys_in : List (List ℕ) → Option (List JsonPair) → JsonTree → List ConfigFault
keys_in keys None tree = wrong_type tree
keys_in keys (Some pairs) tree = flat_map (unknown_key keys) pairs

abbrev pub object_with : List (List ℕ) → JsonTree → List ConfigFault
object_with keys tree = keys_in keys (object_pairs tree) tree

-- ---- whole numbers

abbrev pub is_whole : List ℕ → Bool
is_whole [] = false
is_whole (digit ∷ digits) = all_ascii_digits (digit ∷ digits)

-- digits without a sign, a fraction or an exponent
abbrev pub whole_in : List ℕ → Option ℕ
whole_in word = if is_whole word then Some (digits_value 10 word) else None

abbrev pub whole_of : JsonTree → Option ℕ
whole_of tree = option_and_then whole_in (number_word tree)

abbrev pub is_within : ℕ → ℕ → ℕ → Bool
is_within low high number = nat_le low number && nat_le number high

abbrev pub whole : ℕ → ℕ → JsonTree → List ConfigFault
whole low high tree = checked (is_within low high) (whole_of tree) tree

-- the number, where it is one and within bounds
abbrev pub within : ℕ → ℕ → Option ℕ → Option ℕ
within low high None = None
within low high (Some number) = if is_within low high number then Some number else None

abbrev pub whole_value : ℕ → ℕ → Option JsonTree → Option ℕ
whole_value low high value = within low high (option_and_then whole_of value)

-- of signed numbers, digits that one minus may precede
abbrev pub has_minus : List ℕ → Bool
has_minus word = slice_index word 0 == 45

abbrev pub magnitude_of : List ℕ → List ℕ
magnitude_of word = if has_minus word then drop 1 word else word

-- whether a number of 32 bits can be so large: one more below zero
abbrev pub fits_32 : Bool → ℕ → Bool
fits_32 minus magnitude = nat_le magnitude (if minus then 2_147_483_648 else 2_147_483_647)

abbrev pub signed_by : Bool → ℕ → ℤ
signed_by minus magnitude = if minus then neg_ℤ (pos magnitude) else pos magnitude

abbrev pub signed_in : Option (List ℕ) → JsonTree → List ConfigFault
signed_in None tree = wrong_type tree
signed_in (Some word) tree = checked (fits_32 (has_minus word)) (whole_in (magnitude_of word)) tree

abbrev pub signed : JsonTree → List ConfigFault
signed tree = signed_in (number_word tree) tree

abbrev pub signed_within : Bool → Option ℕ → Option ℤ
signed_within minus None = None
signed_within minus (Some magnitude) = if fits_32 minus magnitude then Some (signed_by minus magnitude) else None

abbrev pub signed_word : List ℕ → Option ℤ
signed_word word = signed_within (has_minus word) (whole_in (magnitude_of word))

abbrev pub signed_value : Option JsonTree → Option ℤ
signed_value value = option_and_then signed_word (option_and_then number_word value)

-- ---- values of the other kinds, where they are there

abbrev pub text_value : Option JsonTree → Option (List ℕ)
text_value value = option_and_then text_of value

abbrev pub truth_value : Option JsonTree → Option Bool
truth_value value = option_and_then truth_of value

abbrev pub texts_in : List (List ℕ) → Option (List JsonTree) → List (List ℕ)
texts_in defaults None = defaults
texts_in defaults (Some items) = filter_map text_of items

-- the texts of a list, else the default
abbrev pub texts_value : List (List ℕ) → Option JsonTree → List (List ℕ)
texts_value defaults value = texts_in defaults (option_and_then items_of value)
