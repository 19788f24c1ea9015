-- The entries (webpack, "Entry Points": a text, a list or an object; this project: which faults they have, and their places).
use Rattle.std.specs.Prelude.{ℕ, List, [], ◌∷◌, ◌++◌, map, codes, filter_map, flat_map, option_to_list, Option, Some, None, option_map, if◌then◌else◌}
use Rattle.std.specs.Option.{unwrap_or}
use Rattle.fault_place.specs.Place.{spot_at}
use Rattle.graph_types.specs.declared.entry.EntryFile.{EntryFile}
use Rattle.graph_types.specs.declared.entry.EntrySpec.{EntrySpec}
use Rattle.json_order.specs.declared.tree.JsonTree.{JsonTree}
use Rattle.json_order.specs.declared.tree.JsonPair.{JsonPair}
use Rattle.path_text.specs.Path.{is_normal}
use Rattle.pack_config.specs.declared.fault.ConfigFault.{ConfigFault}
use Rattle.pack_config.specs.declared.fault.ConfigKind.TheVariants.{OutOfRange}
use Rattle.pack_config.specs.Faults.{config_fault}
use Rattle.pack_config.specs.Values.{any_text, object_with, items_of, out_of_range, object_pairs, text_of, value_at}

-- ---- faults

abbrev pub empty_list : {X : Type 0} → List X → JsonTree → List ConfigFault
empty_list [] tree = out_of_range tree
empty_list (item ∷ items) tree = []

abbrev pub files_in : Option (List JsonTree) → JsonTree → List ConfigFault
files_in None tree = any_text tree
files_in (Some items) tree = empty_list items tree ++ flat_map any_text items

-- a text, or a list of texts that isn't empty
abbrev pub files_rule : JsonTree → List ConfigFault
files_rule tree = files_in (items_of tree) tree

abbrev pub import_key : List (List ℕ)
import_key = codes "import" ∷ []

abbrev pub described_keys : Option (List JsonPair) → JsonTree → List ConfigFault
described_keys None tree = []
described_keys (Some pairs) tree = object_with import_key tree

-- the value that names the files of an entry: that of `import` in an object
abbrev pub import_of : JsonTree → JsonTree
import_of tree = unwrap_or (value_at (codes "import") (Some tree)) tree

-- a text or a list, or an object with these at `import` and nothing else
abbrev pub described_rule : JsonTree → List ConfigFault
described_rule tree = described_keys (object_pairs tree) tree ++ files_rule (import_of tree)

-- its name is a normal path
abbrev pub named_rule : JsonPair → List ConfigFault
named_rule pair = (if is_normal pair.key then [] else config_fault OutOfRange pair.key_at ∷ []) ++ described_rule pair.value

abbrev pub entries_in : Option (List JsonPair) → JsonTree → List ConfigFault
entries_in None tree = files_rule tree
entries_in (Some pairs) tree = empty_list pairs tree ++ flat_map named_rule pairs

-- a text, a list, or an object of names that isn't empty
abbrev pub entry_rule : JsonTree → List ConfigFault
entry_rule tree = entries_in (object_pairs tree) tree

-- ---- the entries

abbrev pub file_of : List ℕ → JsonTree → Option EntryFile
file_of text tree = option_map (λ request. record { request = request; at = spot_at text tree.at }) (text_of tree)

abbrev pub files_by : List ℕ → Option (List JsonTree) → JsonTree → List EntryFile
files_by text None tree = option_to_list (file_of text tree)
files_by text (Some items) tree = filter_map (file_of text) items

abbrev pub import_files : List ℕ → JsonTree → List EntryFile
import_files text tree = files_by text (items_of tree) tree

abbrev pub entry_of : List ℕ → JsonPair → EntrySpec
entry_of text pair = record { name = pair.key; files = import_files text (import_of pair.value) }

abbrev pub main_entry : List EntryFile → List EntrySpec
main_entry files = record { name = codes "main"; files = files } ∷ []

-- the default, whose place is the first
abbrev pub default_entry_files : List EntryFile
default_entry_files = record { request = codes "./src/index.js"; at = record { offset = 0; line = 1; column = 1 } } ∷ []

abbrev pub entries_by : List ℕ → Option (List JsonPair) → JsonTree → List EntrySpec
entries_by text None tree = main_entry (import_files text tree)
entries_by text (Some pairs) tree = map (entry_of text) pairs

abbrev pub entries_of : List ℕ → Option JsonTree → List EntrySpec
entries_of text None = main_entry default_entry_files
entries_of text (Some tree) = entries_by text (object_pairs tree) tree
