-- What `read_config` answers, by the grammar of configurations (this project).
use Rattle.std.specs.Prelude.{◌≡◌, ℕ, ◌<◌, ◌≤◌, ◌⊎◌, true, List, [], length, codes, Option, Some, Result, Ok, Err}
use Rattle.std.specs.Option.{unwrap_or}
use Rattle.asset_names.specs.Template.{IsTemplateOf}
use Rattle.graph_types.specs.declared.config.Config.{Config}
use Rattle.json_order.specs.declared.fault.JsonFault.{JsonFault}
use Rattle.json_order.specs.declared.tree.JsonTree.{JsonTree}
use Rattle.json_order.specs.Answer as json
use Rattle.pack_config.specs.declared.fault.ConfigEnd.{ConfigEnd}
use Rattle.pack_config.specs.declared.fault.ConfigEnd.TheVariants.{Fault, NoMemory}
use Rattle.pack_config.specs.declared.fault.ConfigFault.{ConfigFault}
use Rattle.pack_config.specs.declared.fault.ConfigKind.TheVariants.{TooLong, Json}
use Rattle.pack_config.specs.Entries.{entries_of}
use Rattle.pack_config.specs.Faults.{IsLeast, config_fault}
use Rattle.pack_config.specs.Grammar.{aliases_of, default_conditions, default_extensions, default_fields, default_files, digits_of, faults_of, is_named, public_path}
use Rattle.pack_config.specs.Splits.{split_of}
use Rattle.pack_config.specs.Templates.{template_text}
use Rattle.pack_config.specs.Values.{text_value, texts_value, truth_value, value_at}

abbrev pub size_limit : ℕ
size_limit = 4_194_304

-- the value of a key in one of the parts of a configuration
abbrev pub in_part : List ℕ → List ℕ → JsonTree → Option JsonTree
in_part part key tree = value_at key (value_at part (Some tree))

-- the configuration that a tree without a fault stands for, key by key; places are those of the text
pub record IsConfigOf (text : List ℕ) (tree : JsonTree) (config : Config) : Type 0 where
  pub entries : config.entries ≡ entries_of text (value_at (codes "entry") (Some tree))
  pub filename : IsTemplateOf (digits_of (value_at (codes "output") (Some tree)))
      (template_text (codes "[name].js") (in_part (codes "output") (codes "filename") tree)) config.filename.parts
  pub chunk_filename : IsTemplateOf (digits_of (value_at (codes "output") (Some tree)))
      (template_text (codes "[id].js") (in_part (codes "output") (codes "chunkFilename") tree)) config.chunk_filename.parts
  pub public_path : config.public_path ≡ public_path (text_value (in_part (codes "output") (codes "publicPath") tree))
  pub alias : config.alias ≡ aliases_of (in_part (codes "resolve") (codes "alias") tree)
  pub extensions : config.extensions ≡ texts_value default_extensions (in_part (codes "resolve") (codes "extensions") tree)
  pub main_fields : config.main_fields ≡ texts_value default_fields (in_part (codes "resolve") (codes "mainFields") tree)
  pub main_files : config.main_files ≡ texts_value default_files (in_part (codes "resolve") (codes "mainFiles") tree)
  pub conditions : config.conditions ≡ texts_value default_conditions (in_part (codes "resolve") (codes "conditionNames") tree)
  pub named_ids : config.named_ids ≡ is_named (text_value (in_part (codes "optimization") (codes "moduleIds") tree))
  pub merge_equal : config.merge_equal ≡ unwrap_or (truth_value (in_part (codes "optimization") (codes "mergeDuplicateChunks") tree)) true
  pub drop_empty : config.drop_empty ≡ unwrap_or (truth_value (in_part (codes "optimization") (codes "removeEmptyChunks") tree)) true
  pub cache_groups : config.cache_groups ≡ split_of text (in_part (codes "optimization") (codes "splitChunks") tree)

-- the configuration of a JSON value that has no fault, or the least of its faults
abbrev pub IsAnswerIn : List ℕ → JsonTree → Result Config ConfigFault → Type 0
IsAnswerIn text tree (Ok config) = (faults_of tree ≡ []) × IsConfigOf text tree config
IsAnswerIn text tree (Err fault) = IsLeast fault (faults_of tree)

-- the answer of a text that is JSON, or that stops being JSON at a place
abbrev pub IsAnswerBy : List ℕ → Result JsonTree JsonFault → Result Config ConfigFault → Type 0
IsAnswerBy text (Ok tree) answer = IsAnswerIn text tree answer
IsAnswerBy text (Err stop) answer = answer ≡ Err (config_fault Json stop.offset)

-- the answer of a text: one that is too long is not read
abbrev pub IsConfigAnswer : List ℕ → Result Config ConfigFault → Type 0
IsConfigAnswer text answer =
    ((size_limit < length text) × (answer ≡ Err (config_fault TooLong 0)))
    ⊎ ((length text ≤ size_limit) × ((read : Result JsonTree JsonFault) × json.IsAnswer text read × IsAnswerBy text read answer))

-- the result of a call is an answer, unless memory ran out
abbrev pub ConfigAnswersBy : (Result Config ConfigFault → Type 0) → Result Config ConfigEnd → Type 0
ConfigAnswersBy Is (Ok config) = Is (Ok config)
ConfigAnswersBy Is (Err (Fault fault)) = Is (Err fault)
ConfigAnswersBy Is (Err NoMemory) = Unit {0}

-- two configurations with the same values: of a template its parts are the value
pub record AreSame (one other : Config) : Type 0 where
  pub entries : one.entries ≡ other.entries
  pub filename : one.filename.parts ≡ other.filename.parts
  pub chunk_filename : one.chunk_filename.parts ≡ other.chunk_filename.parts
  pub public_path : one.public_path ≡ other.public_path
  pub alias : one.alias ≡ other.alias
  pub extensions : one.extensions ≡ other.extensions
  pub main_fields : one.main_fields ≡ other.main_fields
  pub main_files : one.main_files ≡ other.main_files
  pub conditions : one.conditions ≡ other.conditions
  pub named_ids : one.named_ids ≡ other.named_ids
  pub merge_equal : one.merge_equal ≡ other.merge_equal
  pub drop_empty : one.drop_empty ≡ other.drop_empty
  pub cache_groups : one.cache_groups ≡ other.cache_groups

-- the same configuration, or the same fault
abbrev pub AreAlike : Result Config ConfigFault → Result Config ConfigFault → Type 0
AreAlike (Ok one) (Ok other) = AreSame one other
AreAlike (Ok one) (Err fault) = ⊥
AreAlike (Err fault) (Ok other) = ⊥
AreAlike (Err one) (Err other) = one ≡ other
