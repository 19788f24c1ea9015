-- What `clap` answers of words is what the grammar gives.
use Rattle.std.proofs.Common.{◌≡◌, true, List, [], ◌∷◌, codes, map, string_bytes, String, Option, Some, None, refl, sym, ap, subst, ◌∙◌}
use Rattle.std.specs.Prelude.{is_some, option_copied}
use Rattle.std.specs.Option.{option_to_list}
use Rattle.std.specs.List.{AllByRecursion, fold}
use Rattle.std.specs.Str.{IsUtf8}
use Rattle.std.proofs.lemmas.Str.{IsUtf8-string_bytes}
use Rattle.clap.specs.Faults.{entered_fault, fault_of, is_simple_and_free, level_fault}
use Rattle.clap.specs.Kinds.{IsAmong, Kinds}
use Rattle.clap.specs.Matches.{first_value}
use Rattle.clap.specs.Simple.{App, entered, matches_of}
use Rattle.clap.specs.Walk.{first_of, nothing_held, rows_of, walk, walk_from}
use Rattle.clap.proofs.WalkLemmas.{first_value-rows}
use Rattle.clap.specs.declared.error.kind.ErrorKind.{ErrorKind}
use Rattle.clap.specs.declared.parser.matches.Found.{Found}
use Rattle.cli_words.specs.Words.{AreWorkers, Gives, Word}
use Rattle.cli_words.specs.inner.Arguments.{AnswersArguments, IsRead, words_app}
use Rattle.cli_words.specs.inner.Clap.{rest_fault, shape}
use Rattle.cli_words.specs.inner.Line.{after_word, no_words}
use Rattle.cli_words.specs.declared.arguments.Arguments.{Arguments}
use Rattle.cli_words.proofs.Holdings.{Ends, IsHeld}
use Rattle.cli_words.proofs.Lines.{gives_taken, taken_gives}
use Rattle.cli_words.proofs.Walks.{agrees}

pub all_texts : {Z : Type 0} (words : List (String Z)) → AllByRecursion IsUtf8 (map string_bytes words)
all_texts [] = tt
all_texts (word ∷ words) = (IsUtf8-string_bytes word, all_texts words)

pub is_simple_so : is_simple_and_free words_app ≡ true
is_simple_so = refl

-- ---- there is no subcommand

abbrev made : App
made = record { top = shape; subs = [] }

by_stop : (words : List Word) (stop : Option (Word × List Word)) →
    level_fault shape [] nothing_held words (is_some (entered made stop)) (entered_fault made stop) ≡ rest_fault (walk_from nothing_held) words
by_stop words None = refl
by_stop words (Some stop) = refl

fault_is : (words : List Word) → fault_of words_app words ≡ rest_fault (walk_from nothing_held) words
fault_is words = by_stop words (walk shape.rules [] nothing_held words).stopped

module _ (words : List Word) (texts : AllByRecursion IsUtf8 words) where
  ends : Ends (fault_of words_app words) (matches_of words_app words) (fold after_word no_words words)
  ends = subst (λ faults. Ends faults (matches_of words_app words) (fold after_word no_words words)) (sym (fault_is words)) (agrees words texts)

  -- ---- words that `clap` refuses

  refused_by : (faults : Kinds) (kind : ErrorKind) → IsAmong kind faults → Ends faults (matches_of words_app words) (fold after_word no_words words) → AnswersArguments words None
  refused_by [] kind among is = absurd among
  refused_by (fault ∷ faults) kind among is = λ word values number gives workers.
      let given = gives_taken words (word ∷ []) values gives in
      is word number given.may_end given.positionals (subst (λ vs. AreWorkers vs number) (sym given.values) workers)

  pub refused_so : (kind : ErrorKind) → IsAmong kind (fault_of words_app words) → AnswersArguments words None
  refused_so kind among = refused_by (fault_of words_app words) kind among ends

  -- ---- words that it takes

  module _ (found : Found) (rows : rows_of found ≡ matches_of words_app words) (none : fault_of words_app words ≡ []) where
    is_held : IsHeld (matches_of words_app words) (fold after_word no_words words)
    is_held = subst (λ faults. Ends faults (matches_of words_app words) (fold after_word no_words words)) none ends

    value_of : (id : Word) → first_of id (matches_of words_app words) ≡ first_value found id
    value_of id = ap (first_of id) (sym rows) ∙ sym (first_value-rows found id)

    words_are : (word : Option Word) → first_value found (codes "word") ≡ word → (fold after_word no_words words).positionals ≡ option_to_list word
    words_are word is = is_held.positionals ∙ ap option_to_list (value_of (codes "word") ∙ is)

    values_are : (value : Option Word) → first_value found (codes "workers") ≡ value → (fold after_word no_words words).values ≡ option_to_list value
    values_are value is = is_held.values ∙ ap option_to_list (value_of (codes "workers") ∙ is)

    pub taken_so : (answer : Option Arguments) → IsRead found answer → AnswersArguments words answer
    taken_so None is = λ word values number gives workers.
        let given = gives_taken words (word ∷ []) values gives in
        let bad : [] ≡ word ∷ [] = sym (words_are None is) ∙ given.positionals in
        absurd (cc)
    taken_so (Some arguments) is =
        let gives = taken_gives words is_held.may_end in
        subst (λ vs. Gives words (arguments.word.now ∷ []) vs) (values_are (option_copied arguments.workers) is.1)
        (subst (λ ps. Gives words ps (fold after_word no_words words).values) (words_are (Some arguments.word.now) is.0) gives)
