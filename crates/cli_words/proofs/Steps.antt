-- What one word comes to, for `clap` and for what the words give.
use Rattle.std.proofs.Common.{◌≡◌, ℕ, false, cond, List, [], ◌∷◌, ◌++◌, codes, bytes_eq, Option, Some, None, refl, sym, ap, subst, ◌∙◌}
use Rattle.std.specs.Option.{option_map_or}
use Rattle.std.specs.List.{fold}
use Rattle.std.proofs.Math.Bool.{and-false}
use Rattle.clap.specs.Kinds.{Kinds, or_else}
use Rattle.clap.specs.Lexer.{long_of}
use Rattle.clap.specs.Faults.{bundle_fault, flag_word_fault, positional_fault, settle_fault, step_fault, turn_fault, walk_fault}
use Rattle.clap.specs.Walk.{Held, Row, Waiting, Walk, after_step, finished, idle, is_pending, long_or_other, option, positional_held, pushed, settled, settled_rows, short_or_plain, subcommand_or_other, trailing, used, walked}
use Rattle.clap.specs.Walk.{Step, plain_word as clap_plain, value as to_word}
use Rattle.clap.specs.declared.error.kind.ErrorKind.{ErrorKind}
use Rattle.clap.specs.declared.error.kind.ErrorKind.TheVariants as kind
use Rattle.cli_words.specs.Words.{Word}
use Rattle.cli_words.specs.inner.Clap.{Pending, awaiting, behind_walk, end_fault, held, open_walk, place_after, rest_fault, rules, shape, value_walk, word_made, workers_made}
use Rattle.cli_words.specs.inner.Line.{Given, after_word, named_value}
use Rattle.cli_words.proofs.Forms.{IsPositional, IsUnknown}
use Rattle.cli_words.proofs.Holdings.{Ends}
use Rattle.cli_words.proofs.Spoilt.{IsNoCommand}

abbrev pub Agrees : Walk → Given → List Word → Type 0
Agrees walk given words = Ends (rest_fault walk words) (finished rules (fold (walked rules []) walk words).held) (fold after_word given words)

-- ---- one word

-- a word that is taken
pub taken : (walk next : Walk) (given after : Given) (word : Word) (words : List Word) → turn_fault shape [] walk word ≡ [] → walked rules [] walk word ≡ next → after_word given word ≡ after →
    Agrees next after words → Agrees walk given (word ∷ words)
unfolding walk_fault
taken walk next given after word words turn goes line agrees =
    let moved = walked rules [] walk word in
    let there = subst (λ other. Agrees other (after_word given word) words) (sym goes) (subst (λ other. Agrees next other words) (sym line) agrees) in
    subst (λ faults. Ends (or_else (or_else faults (walk_fault shape [] moved words)) (end_fault (fold (walked rules []) moved words).held))
    (finished rules (fold (walked rules []) moved words).held) (fold after_word (after_word given word) words)) (sym turn) there

-- a word that is refused
pub refuses : (walk : Walk) (given : Given) (word : Word) (words : List Word) (fault : ErrorKind) (faults : Kinds) → turn_fault shape [] walk word ≡ fault ∷ faults →
    IsNoCommand (fold after_word given (word ∷ words)) → Agrees walk given (word ∷ words)
unfolding walk_fault
refuses walk given word words fault faults turn spoilt =
    let moved = walked rules [] walk word in
    subst (λ faults. Ends (or_else (or_else faults (walk_fault shape [] moved words)) (end_fault (fold (walked rules []) moved words).held))
    (finished rules (fold (walked rules []) moved words).held) (fold after_word (after_word given word) words)) (sym turn) spoilt

-- ---- a positional word

pub positional_sound : (rows : List Row) (pending : Pending) → positional_fault rules false word_made (held rows pending) ≡ settle_fault rules false (held rows pending)
positional_sound rows pending = ap (λ b. cond b [] (settle_fault rules false (held rows pending))) (and-false (is_pending word_made pending))

positional_goes : (word : Word) (rows : List Row) (pending : Pending) → positional_held rules word_made word (held rows pending) ≡ held (settled_rows rules pending rows) (Some (codes "word", word ∷ []))
positional_goes word rows pending = ap (λ b. pushed (codes "word") word (cond b (held rows pending) (settled rules (held rows pending)))) (and-false (is_pending word_made pending))

pub behind_goes : (word : Word) (rows : List Row) (pending : Pending) (waiting : Waiting) →
    walked rules [] (behind_walk (held rows pending) waiting None) word ≡ behind_walk (held (settled_rows rules pending rows) (Some (codes "word", word ∷ []))) idle (Some word)
unfolding walked
behind_goes word rows pending waiting = ap (λ h. behind_walk h idle (Some word)) (positional_goes word rows pending)

-- ---- words that are no options

abbrev pub met_of : Waiting → ℕ → Word → Held → Held × Step
met_of waiting position word h = subcommand_or_other rules None waiting position word h

abbrev fault_of_word : Word → Held → Kinds
fault_of_word word h = cond (bytes_eq word (codes "--")) [] (flag_word_fault rules false (long_of word) word h)

pub positional_met : (waiting : Waiting) (position : ℕ) (word : Word) (h : Held) → IsPositional word → met_of waiting position word h ≡ clap_plain rules waiting word h
positional_met waiting position word h is =
    ap (λ b. cond b (h, trailing position) (long_or_other rules waiting word (long_of word) h)) is.no_end
    ∙ ap (λ found. long_or_other rules waiting word found h) is.no_long
    ∙ ap (λ found. short_or_plain rules waiting word found h) is.no_short

pub positional_fault_none : (word : Word) (h : Held) → IsPositional word → fault_of_word word h ≡ []
positional_fault_none word h is =
    ap (λ b. cond b [] (flag_word_fault rules false (long_of word) word h)) is.no_end
    ∙ ap (λ found. flag_word_fault rules false found word h) is.no_long
    ∙ ap (λ found. option_map_or (λ flags. bundle_fault rules false flags h) found []) is.no_short

pub unknown_fault : (word : Word) (rows : List Row) (pending : Pending) → IsUnknown word → fault_of_word word (held rows pending) ≡ kind.UnknownArgument ∷ []
unknown_fault word rows pending is =
    ap (λ b. cond b [] (flag_word_fault rules false (long_of word) word (held rows pending))) is.no_end ∙ is.fault rows pending

-- what a positional word or an unknown one comes to, at a walk that may take an option
module _ (first : Word) (rows : List Row) (pending : Pending) where
  pub positional_turn : (word : Option Word) → IsPositional first → turn_fault shape [] (open_walk (held rows pending) word) first ≡ step_fault shape (place_after word) (held rows pending) to_word
  positional_turn word is =
      let met = met_of idle (place_after word) first (held rows pending) in
      ap (λ faults. or_else faults (step_fault shape (place_after word) met.0 met.1)) (positional_fault_none first (held rows pending) is)
      ∙ ap (λ (m : Held × Step). step_fault shape (place_after word) m.0 m.1) (positional_met idle (place_after word) first (held rows pending) is)

  pub positional_walked : IsPositional first → walked rules [] (open_walk (held rows pending) None) first ≡ open_walk (held (settled_rows rules pending rows) (Some (codes "word", first ∷ []))) (Some first)
  unfolding walked
  positional_walked is =
      ap (λ (m : Held × Step). after_step rules first (open_walk (held rows pending) None) m.0 m.1) (positional_met idle 1 first (held rows pending) is)
      ∙ ap (λ h. open_walk h (Some first)) (positional_goes first rows pending)

  pub unknown_turn : (word : Option Word) → IsUnknown first → turn_fault shape [] (open_walk (held rows pending) word) first ≡ kind.UnknownArgument ∷ []
  unknown_turn word is =
      let met = met_of idle (place_after word) first (held rows pending) in
      ap (λ faults. or_else faults (step_fault shape (place_after word) met.0 met.1)) (unknown_fault first rows pending is)

pub end_walked : (rows : List Row) (pending : Pending) (word : Option Word) → walked rules [] (open_walk (held rows pending) word) (codes "--") ≡ behind_walk (held rows pending) idle word
unfolding walked
end_walked rows pending word = refl

pub option_walked : (rows : List Row) (pending : Pending) (word : Option Word) → walked rules [] (open_walk (held rows pending) word) (codes "--workers") ≡ value_walk (settled_rows rules pending rows) word
unfolding walked
option_walked rows pending word = refl

pub option_with_walked : (value : Word) (rows : List Row) (pending : Pending) (word : Option Word) →
    walked rules [] (open_walk (held rows pending) word) (named_value ++ value) ≡ open_walk (held (used workers_made (value ∷ []) (settled_rows rules pending rows)) None) word
unfolding walked
option_with_walked value rows pending word = refl

pub value_end_walked : (rows : List Row) (word : Option Word) → walked rules [] (value_walk rows word) (codes "--") ≡ behind_walk (awaiting rows) (option (codes "workers")) word
unfolding walked
value_end_walked rows word = refl

pub value_walked : (first : Word) (rows : List Row) (word : Option Word) → IsPositional first → walked rules [] (value_walk rows word) first ≡ open_walk (held rows (Some (codes "workers", first ∷ []))) word
unfolding walked
value_walked first rows word is =
    ap (λ (m : Held × Step). after_step rules first (value_walk rows word) m.0 m.1) (positional_met (option (codes "workers")) (place_after word) first (awaiting rows) is)
