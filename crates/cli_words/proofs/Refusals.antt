-- Words of which one can't be settled are refused, whatever words come.
use Rattle.std.proofs.Common.{◌≡◌, false, List, [], ◌∷◌, ◌++◌, codes, Option, Some, None, refl, sym, ap, subst, ◌∙◌}
use Rattle.std.specs.List.{AllByRecursion}
use Rattle.std.specs.Str.{IsUtf8}
use Rattle.clap.specs.Kinds.{Kinds, or_else}
use Rattle.clap.specs.Faults.{settle_fault, step_fault, use_fault, walk_fault}
use Rattle.clap.specs.Walk.{Row, Waiting, Walk, idle, settled_rows}
use Rattle.clap.specs.Walk.{value as to_word}
use Rattle.clap.specs.declared.error.kind.ErrorKind.{ErrorKind}
use Rattle.clap.specs.declared.error.kind.ErrorKind.TheVariants as kind
use Rattle.cli_words.specs.Words.{Word}
use Rattle.cli_words.specs.inner.Clap.{Pending, behind_walk, held, open_walk, place_after, rules, shape, workers_made}
use Rattle.cli_words.specs.inner.Line.{Given, after_word, named_value}
use Rattle.cli_words.proofs.Forms.{Form, form_of, is_end, is_option, is_option_with, is_positional, is_unknown}
use Rattle.cli_words.proofs.Holdings.{bad_end}
use Rattle.cli_words.proofs.Spoilt.{Spoilt}
use Rattle.cli_words.proofs.Steps.{Agrees, end_walked, positional_sound, positional_turn, refuses, taken, unknown_turn}

-- behind `--` they are refused at the next word, or at the end
pub bad_behind : (words : List Word) (rows : List Row) (pending : Pending) (waiting : Waiting) (word : Option Word) (given : Given) (fault : ErrorKind) (faults : Kinds) →
    settle_fault rules false (held rows pending) ≡ fault ∷ faults → Spoilt given → Agrees (behind_walk (held rows pending) waiting word) given words
unfolding walk_fault
bad_behind [] rows pending waiting word given fault faults bad spoilt = bad_end (held rows pending) given fault faults bad (spoilt [])
bad_behind (next ∷ words) rows pending waiting None given fault faults bad spoilt =
    refuses (behind_walk (held rows pending) waiting None) given next words fault faults (positional_sound rows pending ∙ bad) (spoilt (next ∷ words))
bad_behind (next ∷ words) rows pending waiting (Some word) given fault faults bad spoilt =
    refuses (behind_walk (held rows pending) waiting (Some word)) given next words kind.UnknownArgument [] refl (spoilt (next ∷ words))

-- ---- before a word that may be an option

bad_positional : (rows : List Row) (pending : Pending) (word : Option Word) (fault : ErrorKind) (faults : Kinds) → settle_fault rules false (held rows pending) ≡ fault ∷ faults →
    (first : ErrorKind) × (more : Kinds) × (step_fault shape (place_after word) (held rows pending) to_word ≡ first ∷ more)
bad_positional rows pending None fault faults bad = (fault, faults, positional_sound rows pending ∙ bad)
bad_positional rows pending (Some word) fault faults bad = (kind.UnknownArgument, [], refl)

module _ (rows : List Row) (pending : Pending) (word : Option Word) (fault : ErrorKind) (faults : Kinds) (bad : settle_fault rules false (held rows pending) ≡ fault ∷ faults) where
  abbrev bad_walk : Walk
  bad_walk = open_walk (held rows pending) word

  bad_at : (first : Word) (words : List Word) (given : Given) → Spoilt given → Form first → Agrees bad_walk given (first ∷ words)
  bad_at first words given spoilt (is_end e) =
      subst (λ x. Agrees bad_walk given (x ∷ words)) (sym e)
      (taken bad_walk (behind_walk (held rows pending) idle word) given (after_word given (codes "--")) (codes "--") words refl (end_walked rows pending word) refl
      (bad_behind words rows pending idle word (after_word given (codes "--")) fault faults bad (λ more. spoilt (codes "--" ∷ more))))
  bad_at first words given spoilt (is_option e) =
      subst (λ x. Agrees bad_walk given (x ∷ words)) (sym e)
      (refuses bad_walk given (codes "--workers") words fault faults (ap (λ ks. or_else ks []) bad) (spoilt (codes "--workers" ∷ words)))
  bad_at first words given spoilt (is_option_with value e) =
      let next : Kinds = use_fault false workers_made (value ∷ []) (settled_rows rules pending rows) in
      subst (λ x. Agrees bad_walk given (x ∷ words)) (sym e)
      (refuses bad_walk given (named_value ++ value) words fault faults (ap (λ ks. or_else (or_else ks next) []) bad) (spoilt ((named_value ++ value) ∷ words)))
  bad_at first words given spoilt (is_positional is) =
      let refused_so = bad_positional rows pending word fault faults bad in
      refuses bad_walk given first words refused_so.0 refused_so.1 (positional_turn first rows pending word is ∙ refused_so.2) (spoilt (first ∷ words))
  bad_at first words given spoilt (is_unknown is) =
      refuses bad_walk given first words kind.UnknownArgument [] (unknown_turn first rows pending word is) (spoilt (first ∷ words))

  pub bad_open : (words : List Word) → AllByRecursion IsUtf8 words → (given : Given) → Spoilt given → Agrees bad_walk given words
  unfolding walk_fault
  bad_open [] texts given spoilt = bad_end (held rows pending) given fault faults bad (spoilt [])
  bad_open (first ∷ words) texts given spoilt = bad_at first words given spoilt (form_of first texts.0)
