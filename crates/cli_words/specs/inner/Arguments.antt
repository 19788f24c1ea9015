-- What `clap` is told of the words behind a command's name, and what its answer says of them (this project). A rule and an app
-- are what specs of `clap` read of an argument and of a command.
use Rattle.std.specs.Prelude.{◌≡◌, ℕ, List, [], ◌∷◌, codes, true, Option, Some, None, option_copied}
use Rattle.std.specs.Option.{option_to_list}
use Rattle.clap.specs.Walk.{Rule}
use Rattle.clap.specs.Simple.{App, new_app, new_rule, with_rule}
use Rattle.clap.specs.Matches.{first_value}
use Rattle.clap.specs.declared.builder.action.ArgAction.TheVariants.{Set}
use Rattle.clap.specs.declared.parser.matches.Found.{Found}
use Rattle.cli_words.specs.Words.{AreWorkers, Gives, Word}
use Rattle.cli_words.specs.declared.arguments.Arguments.{Arguments}

-- ---- what it is told

-- the option `--workers`, used at most once
abbrev pub workers_rule : Rule
workers_rule = record (new_rule (codes "workers")) { long = Some (codes "workers"); action = Some Set }

-- the one positional word
abbrev pub word_rule : Rule
word_rule = record (new_rule (codes "word")) { action = Some Set }

-- a command that has these, and neither a help flag nor a program's name before the words
abbrev pub bare_app : App
bare_app =
    let app = new_app (codes "words") in
    record app { top = record app.top { no_binary_name = true; disable_help_flag = true } }

abbrev pub words_app : App
words_app = with_rule (with_rule bare_app workers_rule) word_rule

-- ---- what it answers

-- the positional word that was found, with the value of the option
abbrev pub IsRead : Found → Option Arguments → Type 0
IsRead found None = first_value found (codes "word") ≡ None
IsRead found (Some arguments) =
    (first_value found (codes "word") ≡ Some arguments.word.now)
    × (first_value found (codes "workers") ≡ option_copied arguments.workers)

-- The words give these arguments, or none that a command may have.
abbrev pub AnswersArguments : List Word → Option Arguments → Type 0
AnswersArguments words (Some arguments) = Gives words (arguments.word.now ∷ []) (option_to_list (option_copied arguments.workers))
AnswersArguments words None = (word : Word) (values : List Word) (number : Option ℕ) → Gives words (word ∷ []) values → AreWorkers values number → ⊥
