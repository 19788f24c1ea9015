-- The keys of a configuration (webpack, "Configuration"; this project: which of webpack's values are allowed, and the faults
-- of all others). Of each object the keys, then a line for each key.
use Rattle.std.specs.Prelude.{ℕ, Bool, false, List, [], ◌∷◌, ◌++◌, codes, bytes_eq, filter_map, flat_map, Option, Some, None, option_map, if◌then◌else◌}
use Rattle.std.specs.Option.{unwrap_or}
use Rattle.json_order.specs.declared.tree.JsonTree.{JsonTree}
use Rattle.json_order.specs.declared.tree.JsonPair.{JsonPair}
use Rattle.pack_config.specs.declared.fault.ConfigFault.{ConfigFault}
use Rattle.pack_config.specs.declared.fault.ConfigKind.TheVariants.{OutOfRange}
use Rattle.pack_config.specs.Entries.{entry_rule}
use Rattle.pack_config.specs.Faults.{config_fault}
use Rattle.pack_config.specs.Splits.{split_rule}
use Rattle.pack_config.specs.Templates.{template_rule}
use Rattle.pack_config.specs.Values.{any_text, any_truth, object_with, one_of, only_false, object_pairs, text_of, any_texts, value_at, where_given, whole, whole_value, wrong_type}

-- ---- output

abbrev pub output_keys : List (List ℕ)
output_keys = codes "path" ∷ codes "filename" ∷ codes "chunkFilename" ∷ codes "hashDigestLength" ∷ codes "publicPath" ∷ []

-- how many digits a hash has whose mark names no number
abbrev pub digits_of : Option JsonTree → ℕ
digits_of output = unwrap_or (whole_value 1 64 (value_at (codes "hashDigestLength") output)) 20

abbrev pub output_rule : Option JsonTree → List ConfigFault
output_rule output =
    where_given (object_with output_keys) output
    ++ (where_given (one_of (codes "dist" ∷ codes "./dist" ∷ [])) (value_at (codes "path") output)
    ++ (where_given (whole 1 64) (value_at (codes "hashDigestLength") output)
    ++ (where_given (template_rule (digits_of output)) (value_at (codes "filename") output)
    ++ (where_given (template_rule (digits_of output)) (value_at (codes "chunkFilename") output)
    ++ where_given any_text (value_at (codes "publicPath") output)))))

-- `auto` is read as nothing
abbrev pub public_path : Option (List ℕ) → List ℕ
public_path None = []
public_path (Some text) = if bytes_eq text (codes "auto") then [] else text

-- ---- resolve

abbrev pub resolve_keys : List (List ℕ)
resolve_keys = codes "alias" ∷ codes "extensions" ∷ codes "mainFields" ∷ codes "mainFiles" ∷ codes "conditionNames" ∷ []

abbrev pub alias_member : JsonPair → List ConfigFault
alias_member pair = (if bytes_eq pair.key [] then config_fault OutOfRange pair.key_at ∷ [] else []) ++ any_text pair.value

abbrev pub alias_in : Option (List JsonPair) → JsonTree → List ConfigFault
alias_in None tree = wrong_type tree
alias_in (Some pairs) tree = flat_map alias_member pairs

-- an object of texts, none at the key of nothing
abbrev pub alias_rule : JsonTree → List ConfigFault
alias_rule tree = alias_in (object_pairs tree) tree

abbrev pub aliases_by : Option (List JsonPair) → List (List ℕ × List ℕ)
aliases_by None = []
aliases_by (Some pairs) = filter_map (λ pair. option_map (λ target. (pair.key, target)) (text_of pair.value)) pairs

abbrev pub aliases_of : Option JsonTree → List (List ℕ × List ℕ)
aliases_of None = []
aliases_of (Some tree) = aliases_by (object_pairs tree)

abbrev pub resolve_rule : Option JsonTree → List ConfigFault
resolve_rule resolve =
    where_given (object_with resolve_keys) resolve
    ++ (where_given alias_rule (value_at (codes "alias") resolve)
    ++ (where_given any_texts (value_at (codes "extensions") resolve)
    ++ (where_given any_texts (value_at (codes "mainFields") resolve)
    ++ (where_given any_texts (value_at (codes "mainFiles") resolve)
    ++ where_given any_texts (value_at (codes "conditionNames") resolve)))))

abbrev pub default_extensions : List (List ℕ)
default_extensions = codes ".js" ∷ codes ".json" ∷ []

abbrev pub default_fields : List (List ℕ)
default_fields = codes "browser" ∷ codes "module" ∷ codes "main" ∷ []

abbrev pub default_files : List (List ℕ)
default_files = codes "index" ∷ []

abbrev pub default_conditions : List (List ℕ)
default_conditions = codes "webpack" ∷ codes "browser" ∷ codes "module" ∷ []

-- ---- optimization

abbrev pub optimization_keys : List (List ℕ)
optimization_keys = codes "moduleIds" ∷ codes "mergeDuplicateChunks" ∷ codes "removeEmptyChunks" ∷ codes "minimize" ∷ codes "splitChunks" ∷ []

abbrev pub optimization_rule : Option JsonTree → List ConfigFault
optimization_rule optimization =
    where_given (object_with optimization_keys) optimization
    ++ (where_given only_false (value_at (codes "minimize") optimization)
    ++ (where_given (one_of (codes "natural" ∷ codes "named" ∷ [])) (value_at (codes "moduleIds") optimization)
    ++ (where_given any_truth (value_at (codes "mergeDuplicateChunks") optimization)
    ++ (where_given any_truth (value_at (codes "removeEmptyChunks") optimization)
    ++ where_given split_rule (value_at (codes "splitChunks") optimization)))))

abbrev pub is_named : Option (List ℕ) → Bool
is_named None = false
is_named (Some text) = bytes_eq text (codes "named")

-- ---- the whole

abbrev pub top_keys : List (List ℕ)
top_keys = codes "mode" ∷ codes "target" ∷ codes "devtool" ∷ codes "entry" ∷ codes "output" ∷ codes "resolve" ∷ codes "optimization" ∷ []

-- all faults of a configuration's tree
abbrev pub faults_of : JsonTree → List ConfigFault
faults_of tree =
    object_with top_keys tree
    ++ (where_given (one_of (codes "production" ∷ codes "development" ∷ codes "none" ∷ [])) (value_at (codes "mode") (Some tree))
    ++ (where_given (one_of (codes "web" ∷ [])) (value_at (codes "target") (Some tree))
    ++ (where_given only_false (value_at (codes "devtool") (Some tree))
    ++ (where_given entry_rule (value_at (codes "entry") (Some tree))
    ++ (output_rule (value_at (codes "output") (Some tree))
    ++ (resolve_rule (value_at (codes "resolve") (Some tree))
    ++ optimization_rule (value_at (codes "optimization") (Some tree))))))))
