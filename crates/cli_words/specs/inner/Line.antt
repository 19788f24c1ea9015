-- What the words behind a command's name give, word by word (this project). proofs/Lines.antt shows that it is what
-- specs/Words.antt says, and proofs/Walks.antt that `clap` answers the same.
use Rattle.std.specs.Prelude.{Bool, true, false, List, [], ◌∷◌, ◌++◌, length, drop, codes, bytes_eq, nat_eq, Option, Some, None, if◌then◌else◌}
use Rattle.std.specs.List.{starts_with}
use Rattle.cli_words.specs.Words.{Word, is_plain}

-- what the next word is: an argument or the end, the value of `--workers`, a positional word whatever it is, or nothing, since
-- a word before was no argument
pub data Place : Type 0 where
  Open : Place
  Value : Place
  Behind : Place
  Refused : Place

pub record Given : Type 0 where
  pub positionals : List Word
  pub values : List Word
  pub place : Place

-- these positional words and values so far, and an argument or an end may stand next
abbrev pub open_with : List Word → List Word → Given
open_with positionals values = record { positionals = positionals; values = values; place = Open }

abbrev pub value_with : List Word → List Word → Given
value_with positionals values = record { positionals = positionals; values = values; place = Value }

abbrev pub behind_with : List Word → List Word → Given
behind_with positionals values = record { positionals = positionals; values = values; place = Behind }

abbrev pub refused_with : List Word → List Word → Given
refused_with positionals values = record { positionals = positionals; values = values; place = Refused }

abbrev pub no_words : Given
no_words = open_with [] []

abbrev pub with_positional : Word → Given → Given
with_positional word given = record given { positionals = given.positionals ++ word ∷ [] }

abbrev pub with_value : Word → Given → Given
with_value value given = record given { values = given.values ++ value ∷ [] }

abbrev pub named_value : Word
named_value = codes "--workers="

-- the value that stands behind `=`
abbrev pub value_in : Word → Option Word
value_in word = if starts_with nat_eq word named_value then Some (drop (length named_value) word) else None

abbrev pub or_value : Given → Word → Option Word → Given
or_value given word (Some value) = with_value value given
or_value given word None = if is_plain word then with_positional word given else record given { place = Refused }

abbrev pub after_open : Given → Word → Given
after_open given word =
    if bytes_eq word (codes "--") then record given { place = Behind }
    else (if bytes_eq word (codes "--workers") then record given { place = Value }
    else or_value given word (value_in word))

abbrev pub after_at : Place → Given → Word → Given
after_at Open given word = after_open given word
after_at Value given word = record (with_value word given) { place = Open }
after_at Behind given word = with_positional word given
after_at Refused given word = given

abbrev pub after_word : Given → Word → Given
after_word given word = after_at given.place given word

-- whether words may end so
abbrev pub may_end : Place → Bool
may_end Open = true
may_end Value = false
may_end Behind = true
may_end Refused = false
