-- The walk of `clap` over words gives what the words give word by word, or refuses words that no command may have.
use Rattle.std.proofs.Common.{◌≡◌, false, List, [], ◌∷◌, ◌++◌, codes, Option, Some, None, refl, sym, ap, subst, ◌∙◌}
use Rattle.std.specs.Option.{option_to_list}
use Rattle.std.specs.List.{AllByRecursion, fold}
use Rattle.std.specs.Str.{IsUtf8, all_ascii_digits}
use Rattle.clap.specs.Kinds.{Kinds, or_else}
use Rattle.clap.specs.Faults.{step_fault, turn_fault, use_fault, walk_fault}
use Rattle.clap.specs.Walk.{Held, Row, Waiting, Walk, idle, nothing_held, option, settled_rows, used, walk_from}
use Rattle.clap.specs.Walk.{Step}
use Rattle.clap.specs.declared.error.kind.ErrorKind.TheVariants as kind
use Rattle.cli_words.specs.Words.{Word}
use Rattle.cli_words.specs.inner.Clap.{Pending, awaiting, behind_walk, held, open_walk, place_after, rules, shape, value_walk, workers_made}
use Rattle.cli_words.specs.inner.Line.{Given, after_word, behind_with, named_value, no_words, open_with, value_with}
use Rattle.cli_words.proofs.Forms.{Form, IsPositional, form_of, is_end, is_option, is_option_with, is_positional, is_unknown}
use Rattle.cli_words.proofs.Holdings.{HasValues, Keeps, at_end, bad_end, keeps_value, keeps_word, value_again, value_first, value_rows}
use Rattle.cli_words.proofs.Lines.{plain_word, refused_word}
use Rattle.cli_words.proofs.Spoilt.{IsNoCommand, Spoilt, bad_value, refused, two_values, two_words}
use Rattle.cli_words.proofs.Refusals.{bad_behind, bad_open}
use Rattle.cli_words.proofs.Steps.{Agrees, behind_goes, end_walked, met_of, option_walked, option_with_walked, positional_fault_none, positional_met, positional_sound, positional_turn, positional_walked, refuses, taken, unknown_fault, unknown_turn, value_end_walked, value_walked}

-- ---- behind `--`

behind_agrees : (words : List Word) (rows : List Row) (pending : Pending) (waiting : Waiting) (word value : Option Word) → Keeps rows pending word value →
    Agrees (behind_walk (held rows pending) waiting word) (behind_with (option_to_list word) (option_to_list value)) words
unfolding walk_fault
behind_agrees [] rows pending waiting word value keeps = at_end rows pending word value keeps (behind_with (option_to_list word) (option_to_list value)) refl refl refl
behind_agrees (next ∷ words) rows pending waiting None value keeps =
    taken (behind_walk (held rows pending) waiting None) _ (behind_with [] (option_to_list value)) _ next words
    (positional_sound rows pending ∙ keeps.sound)
    (behind_goes next rows pending waiting)
    refl
    (behind_agrees words (settled_rows rules pending rows) (Some (codes "word", next ∷ [])) idle (Some next) value (keeps_word (settled_rows rules pending rows) next value keeps.settled_so))
behind_agrees (next ∷ words) rows pending waiting (Some word) value keeps =
    refuses (behind_walk (held rows pending) waiting (Some word)) (behind_with (word ∷ []) (option_to_list value)) next words kind.UnknownArgument []
    refl
    (two_words (behind_with (word ∷ next ∷ []) (option_to_list value)) word next refl words)

-- ---- a word that may be an option

abbrev Texts : List Word → Type 0
Texts words = AllByRecursion IsUtf8 words

-- what is to be shown of words where an argument may stand
abbrev Shown : List Word → Type 0
Shown words = (rows : List Row) (pending : Pending) (word value : Option Word) → Keeps rows pending word value →
    Agrees (open_walk (held rows pending) word) (open_with (option_to_list word) (option_to_list value)) words

-- and of words behind `--workers`
abbrev ShownValue : List Word → Type 0
ShownValue words = (rows : List Row) (word value : Option Word) → HasValues rows word value → Agrees (value_walk rows word) (value_with (option_to_list word) (option_to_list value)) words

module _ (words : List Word) (shown : Shown words) (rows : List Row) (pending : Pending) where
  abbrev later : List Row
  later = settled_rows rules pending rows

  -- `--workers=VALUE`, the first and the second time
  with_value_at : (given_value : Word) (word value : Option Word) → Keeps rows pending word value →
      Agrees (open_walk (held rows pending) word) (open_with (option_to_list word) (option_to_list value)) ((named_value ++ given_value) ∷ words)
  with_value_at given_value word None keeps =
      let next : Kinds = use_fault false workers_made (given_value ∷ []) later in
      taken (open_walk (held rows pending) word) (open_walk (held (used workers_made (given_value ∷ []) later) None) word) (open_with (option_to_list word) []) (open_with (option_to_list word) (given_value ∷ []))
      (named_value ++ given_value) words
      (ap (λ ks. or_else (or_else ks next) []) keeps.sound ∙ ap (λ ks. or_else ks []) (value_first later word given_value keeps.settled_so))
      (option_with_walked given_value rows pending word) refl
      (shown (used workers_made (given_value ∷ []) later) None word (Some given_value) (record { sound = refl; settled_so = value_rows later word given_value keeps.settled_so }))
  with_value_at given_value word (Some value) keeps =
      let next : Kinds = use_fault false workers_made (given_value ∷ []) later in
      refuses (open_walk (held rows pending) word) (open_with (option_to_list word) (value ∷ [])) (named_value ++ given_value) words kind.ArgumentConflict []
      (ap (λ ks. or_else (or_else ks next) []) keeps.sound ∙ ap (λ ks. or_else ks []) (value_again later word given_value value keeps.settled_so))
      (two_values (open_with (option_to_list word) (value ∷ given_value ∷ [])) value given_value refl words)

  -- a positional word, the first and the second time
  positional_at : (first : Word) → IsPositional first → (word value : Option Word) → Keeps rows pending word value →
      Agrees (open_walk (held rows pending) word) (open_with (option_to_list word) (option_to_list value)) (first ∷ words)
  positional_at first is None value keeps =
      taken (open_walk (held rows pending) None) (open_walk (held later (Some (codes "word", first ∷ []))) (Some first)) (open_with [] (option_to_list value)) (open_with (first ∷ []) (option_to_list value))
      first words
      (positional_turn first rows pending None is ∙ positional_sound rows pending ∙ keeps.sound)
      (positional_walked first rows pending is) (plain_word first [] (option_to_list value) is.plain)
      (shown later (Some (codes "word", first ∷ [])) (Some first) value (keeps_word later first value keeps.settled_so))
  positional_at first is (Some word) value keeps =
      let given = open_with (word ∷ []) (option_to_list value) in
      refuses (open_walk (held rows pending) (Some word)) given first words kind.UnknownArgument []
      (positional_turn first rows pending (Some word) is)
      (two_words (after_word given first) word first (ap (λ next. next.positionals) (plain_word first (word ∷ []) (option_to_list value) is.plain)) words)

  module _ (word value : Option Word) (keeps : Keeps rows pending word value) (shown_value : ShownValue words) (texts : Texts words) where
    abbrev walk_now : Walk
    walk_now = open_walk (held rows pending) word

    abbrev given_now : Given
    given_now = open_with (option_to_list word) (option_to_list value)

    open_at : (first : Word) → Form first → Agrees walk_now given_now (first ∷ words)
    open_at first (is_end e) =
        subst (λ x. Agrees walk_now given_now (x ∷ words)) (sym e)
        (taken walk_now (behind_walk (held rows pending) idle word) given_now (behind_with (option_to_list word) (option_to_list value)) (codes "--") words refl (end_walked rows pending word) refl
        (behind_agrees words rows pending idle word value keeps))
    open_at first (is_option e) =
        subst (λ x. Agrees walk_now given_now (x ∷ words)) (sym e)
        (taken walk_now (value_walk later word) given_now (value_with (option_to_list word) (option_to_list value)) (codes "--workers") words
        (ap (λ ks. or_else ks []) keeps.sound) (option_walked rows pending word) refl (shown_value later word value keeps.settled_so))
    open_at first (is_option_with given_value e) = subst (λ x. Agrees walk_now given_now (x ∷ words)) (sym e) (with_value_at given_value word value keeps)
    open_at first (is_positional is) = positional_at first is word value keeps
    open_at first (is_unknown is) =
        let gone = refused_word first (option_to_list word) (option_to_list value) is.no_plain is.no_end is.no_option is.no_value in
        refuses walk_now given_now first words kind.UnknownArgument [] (unknown_turn first rows pending word is)
        (subst (λ given. IsNoCommand (fold after_word given words)) (sym gone) (refused (option_to_list word) (option_to_list value) words))

-- ---- a word that is the value of `--workers`

spoilt_value : (bad : Word) (words : List Word) (value : Option Word) → all_ascii_digits bad ≡ false → Spoilt (open_with words (option_to_list value ++ bad ∷ []))
spoilt_value bad words None digits = bad_value (open_with words (bad ∷ [])) bad [] digits refl
spoilt_value bad words (Some value) digits = two_values (open_with words (value ∷ bad ∷ [])) value bad refl

no_value : ShownValue []
unfolding walk_fault
no_value rows word value has = bad_end (awaiting rows) (value_with (option_to_list word) (option_to_list value)) kind.InvalidValue [] refl (λ one number ends only workers. absurd (cc))

module _ (words : List Word) (shown : Shown words) (texts : Texts words) (rows : List Row) (word : Option Word) where
  abbrev value_given : Option Word → Given
  value_given value = value_with (option_to_list word) (option_to_list value)

  value_turn : (first : Word) → IsPositional first → turn_fault shape [] (value_walk rows word) first ≡ []
  value_turn first is =
      let met = met_of (option (codes "workers")) (place_after word) first (awaiting rows) in
      ap (λ faults. or_else faults (step_fault shape (place_after word) met.0 met.1)) (positional_fault_none first (awaiting rows) is)
      ∙ ap (λ (m : Held × Step). step_fault shape (place_after word) m.0 m.1) (positional_met (option (codes "workers")) (place_after word) first (awaiting rows) is)

  value_rest : (first : Word) (value : Option Word) → HasValues rows word value →
      Agrees (open_walk (held rows (Some (codes "workers", first ∷ []))) word) (open_with (option_to_list word) (option_to_list value ++ first ∷ [])) words
  value_rest first None has = shown rows (Some (codes "workers", first ∷ [])) word (Some first) (keeps_value rows word first has)
  value_rest first (Some value) has =
      bad_open rows (Some (codes "workers", first ∷ [])) word kind.ArgumentConflict [] (value_again rows word first value has) words texts
      (open_with (option_to_list word) (value ∷ first ∷ [])) (two_values (open_with (option_to_list word) (value ∷ first ∷ [])) value first refl)

  value_at : (first : Word) (value : Option Word) → HasValues rows word value → Form first → Agrees (value_walk rows word) (value_given value) (first ∷ words)
  value_at first value has (is_end e) =
      subst (λ x. Agrees (value_walk rows word) (value_given value) (x ∷ words)) (sym e)
      (taken (value_walk rows word) (behind_walk (awaiting rows) (option (codes "workers")) word) (value_given value) (open_with (option_to_list word) (option_to_list value ++ codes "--" ∷ [])) (codes "--") words
      refl (value_end_walked rows word) refl
      (bad_behind words rows (Some (codes "workers", [])) (option (codes "workers")) word _ kind.InvalidValue [] refl (spoilt_value (codes "--") (option_to_list word) value refl)))
  value_at first value has (is_option e) =
      subst (λ x. Agrees (value_walk rows word) (value_given value) (x ∷ words)) (sym e)
      (refuses (value_walk rows word) (value_given value) (codes "--workers") words kind.InvalidValue [] refl (spoilt_value (codes "--workers") (option_to_list word) value refl words))
  value_at first value has (is_option_with given_value e) =
      subst (λ x. Agrees (value_walk rows word) (value_given value) (x ∷ words)) (sym e)
      (refuses (value_walk rows word) (value_given value) (named_value ++ given_value) words kind.InvalidValue [] refl (spoilt_value (named_value ++ given_value) (option_to_list word) value refl words))
  value_at first value has (is_positional is) =
      taken (value_walk rows word) (open_walk (held rows (Some (codes "workers", first ∷ []))) word) (value_given value) (open_with (option_to_list word) (option_to_list value ++ first ∷ [])) first words
      (value_turn first is) (value_walked first rows word is) refl (value_rest first value has)
  value_at first value has (is_unknown is) =
      let met = met_of (option (codes "workers")) (place_after word) first (awaiting rows) in
      refuses (value_walk rows word) (value_given value) first words kind.UnknownArgument []
      (ap (λ faults. or_else faults (step_fault shape (place_after word) met.0 met.1)) (unknown_fault first rows (Some (codes "workers", [])) is))
      (spoilt_value first (option_to_list word) value is.no_number words)

-- ---- every list of words

shown_all : (words : List Word) → Texts words → Shown words
unfolding walk_fault
shown_all [] texts rows pending word value keeps = at_end rows pending word value keeps (open_with (option_to_list word) (option_to_list value)) refl refl refl
shown_all (first ∷ []) texts rows pending word value keeps = open_at [] (shown_all [] texts.1) rows pending word value keeps no_value texts.1 first (form_of first texts.0)
shown_all (first ∷ next ∷ words) texts rows pending word value keeps =
    open_at (next ∷ words) (shown_all (next ∷ words) texts.1) rows pending word value keeps
    (λ value_rows value_word value_value has. value_at words (shown_all words texts.1.1) texts.1.1 value_rows value_word next value_value has (form_of next texts.1.0))
    texts.1 first (form_of first texts.0)

pub agrees : (words : List Word) → AllByRecursion IsUtf8 words → Agrees (walk_from nothing_held) no_words words
agrees words texts = shown_all words texts [] None None None (record { sound = refl; settled_so = record { word_is = refl; value_is = refl } })
