-- What `clap` makes of the words behind a command's name, in its own terms, for the proofs (this project).
use Rattle.std.specs.Prelude.{ℕ, List, [], ◌∷◌, codes, true, false, Option, Some, None}
use Rattle.clap.specs.Kinds.{Kinds, or_else}
use Rattle.clap.specs.Faults.{check_fault, defaults_fault, settle_fault, walk_fault}
use Rattle.clap.specs.Simple.{Shape}
use Rattle.clap.specs.Walk.{Held, Row, Rule, Waiting, Walk, finished, idle, option, settled, walked}
use Rattle.std.specs.List.{fold}
use Rattle.clap.specs.declared.builder.value_parser.Reading.TheVariants.{AsWritten}
use Rattle.clap.specs.declared.builder.value_parser.ValueParser.TheVariants as parser
use Rattle.clap.specs.declared.parser.matches.ValueSource.TheVariants.{CommandLine}
use Rattle.cli_words.specs.Words.{Word}
use Rattle.cli_words.specs.inner.Arguments.{word_rule, words_app, workers_rule}

-- ---- the command as it is built

abbrev pub workers_made : Rule
workers_made = record workers_rule {
  parser = Some parser.String;
  range = Some (record { start_inclusive = 1; end_inclusive = 1 });
}

abbrev pub word_made : Rule
word_made = record word_rule {
  index = Some 1;
  parser = Some parser.String;
  range = Some (record { start_inclusive = 1; end_inclusive = 1 });
}

abbrev pub rules : List Rule
rules = workers_made ∷ word_made ∷ []

abbrev pub shape : Shape
shape = record words_app.top {
  rules = rules;
  is_built = true;
  is_leaf = true;
  disable_help_subcommand = true;
}

-- the row of an argument with its value
abbrev pub used_row : Word → Word → Row
used_row id value = record {
  id = id;
  values = value ∷ [];
  count = None;
  source = Some CommandLine;
  reading = AsWritten;
}

-- ---- its walk over the words, one after another

abbrev pub Pending : Type 0
Pending = Option (Word × List Word)

-- what was used so far, and the argument that is not settled yet
abbrev pub held : List Row → Pending → Held
held rows pending = record { rows = rows; pending = pending; skip = 0 }

-- the option waits for its value
abbrev pub awaiting : List Row → Held
awaiting rows = held rows (Some (codes "workers", []))

-- the position of the next positional word: a second one has none
abbrev pub place_after : Option Word → ℕ
place_after None = 1
place_after (Some word) = 2

-- where the walk stands before a word that may be an option; before a value; and behind `--`
abbrev pub open_walk : Held → Option Word → Walk
open_walk h word = record { held = h; waiting = idle; position = place_after word; is_trailing = false; stopped = None }

abbrev pub value_walk : List Row → Option Word → Walk
value_walk rows word = record { held = awaiting rows; waiting = option (codes "workers"); position = place_after word; is_trailing = false; stopped = None }

abbrev pub behind_walk : Held → Waiting → Option Word → Walk
behind_walk h waiting word = record { held = h; waiting = waiting; position = place_after word; is_trailing = true; stopped = None }

-- ---- why it refuses

-- at the end of the words
abbrev pub end_fault : Held → Kinds
end_fault h =
    or_else (settle_fault rules false h)
    (or_else (defaults_fault (settled rules h).rows rules) (check_fault shape (finished rules h) false))

-- at the words that are left, or at their end
abbrev pub rest_fault : Walk → List Word → Kinds
rest_fault walk words =
    or_else (walk_fault shape [] walk words) (end_fault (fold (walked rules []) walk words).held)
