-- The words of a command (this project; `--` as in POSIX, Utility Conventions, 12.2, guideline 10).
-- A word is the list of its bytes.
use Rattle.std.specs.Prelude.{◌≡◌, ◌⊎◌, ℕ, Bool, true, not, ◌||◌, ◌==◌, List, [], ◌∷◌, ◌++◌, codes, bytes_eq, slice_index, IsTrue, Result, Ok, MatchResult, Option, Some, None}
use Rattle.std.specs.List.{flat_map, list_all}
use Rattle.path_text.specs.Path.{normal_of}
use Rattle.cli_words.specs.Numbers.{IsNumber}
use Rattle.cli_words.specs.declared.job.Job.{Job}
use Rattle.cli_words.specs.declared.job.Job.TheVariants.{Build, Sample}
use Rattle.cli_words.specs.declared.words_end.WordsEnd.{WordsEnd}
use Rattle.cli_words.specs.declared.words_end.WordsEnd.TheVariants.{Usage, NoMemory}

abbrev pub Word : Type 0
Word = List ℕ

-- ---- the words that all commands may have behind their names

-- An argument is a positional word, or a value of the option `--workers` as a word of its own or behind `=`.
pub data Argument : Type 0 where
  positional : Word → Argument
  workers : Word → Argument
  workers_is : Word → Argument

abbrev pub spelled : Argument → List Word
spelled (positional word) = word ∷ []
spelled (workers value) = codes "--workers" ∷ value ∷ []
spelled (workers_is value) = (codes "--workers=" ++ value) ∷ []

-- a word that is no option: it doesn't begin with `-`, or is `-` alone
abbrev pub is_plain : Word → Bool
is_plain word = not (slice_index word 0 == 45) || bytes_eq word (codes "-")

abbrev pub is_argument : Argument → Bool
is_argument (positional word) = is_plain word
is_argument (workers value) = true
is_argument (workers_is value) = true

abbrev pub positional_of : Argument → List Word
positional_of (positional word) = word ∷ []
positional_of (workers value) = []
positional_of (workers_is value) = []

abbrev pub value_of : Argument → List Word
value_of (positional word) = []
value_of (workers value) = value ∷ []
value_of (workers_is value) = value ∷ []

-- what may end the arguments: `--`, behind which each word is positional
abbrev pub spelled_end : Option (List Word) → List Word
spelled_end None = []
spelled_end (Some words) = codes "--" ∷ words

abbrev pub words_behind : Option (List Word) → List Word
words_behind None = []
words_behind (Some words) = words

-- the words are arguments and an end, with these positional words and these values
pub record Gives (words positionals values : List Word) : Type 0 where
  pub arguments : List Argument
  pub end : Option (List Word)
  pub spelled : words ≡ flat_map spelled arguments ++ spelled_end end
  pub arguments_are : IsTrue (list_all is_argument arguments)
  pub positionals_are : positionals ≡ flat_map positional_of arguments ++ words_behind end
  pub values_are : values ≡ flat_map value_of arguments

-- at most one value, from 1 to 32
abbrev pub AreWorkers : List Word → Option ℕ → Type 0
AreWorkers values None = values ≡ []
AreWorkers values (Some number) = (value : Word) × (values ≡ value ∷ []) × IsNumber 1 32 value number

-- ---- the commands: a row for each, with what its one positional word is

-- the words are a command's name, its one positional word and what workers it may have
pub record IsCommand (name : Word) (Is : Word → Type 0) (number : Option ℕ) (words : List Word) : Type 0 where
  pub rest : List Word
  pub word : Word
  pub values : List Word
  pub named : words ≡ name ∷ rest
  pub gives : Gives rest (word ∷ []) values
  pub word_is : Is word
  pub workers_are : AreWorkers values number

-- the normal path that a word names, which isn't the root
abbrev pub IsFilePath : Word → Word → Type 0
IsFilePath path word = (normal_of word ≡ Ok path) × (path ≡ [] → ⊥)

abbrev pub IsJob : List Word → Job → Type 0
IsJob words (Build config number) = IsCommand (codes "build") (IsFilePath config) number words
IsJob words (Sample n number) = IsCommand (codes "sample") (λ word. IsNumber 1 20_000 word n) number words

-- Usage exactly where the words are no job. Want of memory is free.
abbrev pub AnswersWords : List Word → Result Job WordsEnd → Type 0
AnswersWords words result =
    MatchResult result (IsJob words)
    (λ end. (end ≡ NoMemory) ⊎ ((end ≡ Usage) × ((job : Job) → IsJob words job → ⊥)))
