-- What a command may not have, and that no further word mends it.
use Rattle.std.proofs.Common.{◌≡◌, ℕ, Bool, true, false, cond, List, [], ◌∷◌, ◌++◌, codes, bytes_eq, Option, Some, None, refl, sym, ap, ◌∙◌}
use Rattle.std.proofs.lemmas.List.{append-nil, append_assoc}
use Rattle.std.specs.List.{fold}
use Rattle.std.specs.Str.{all_ascii_digits}
use Rattle.cli_words.specs.Words.{AreWorkers, Word, is_plain}
use Rattle.cli_words.specs.inner.Line.{Behind, Given, Open, Place, Refused, Value, after_at, after_word, may_end, or_value, refused_with, value_in, with_positional, with_value}
use Rattle.cli_words.proofs.Lines.{refused_stays}

-- no command may have what is given
abbrev pub IsNoCommand : Given → Type 0
IsNoCommand given = (word : Word) (number : Option ℕ) → may_end given.place ≡ true → given.positionals ≡ word ∷ [] → AreWorkers given.values number → ⊥

-- and none whatever words come
abbrev pub Spoilt : Given → Type 0
Spoilt given = (words : List Word) → IsNoCommand (fold after_word given words)

-- ---- what is given only grows

record Grows (given next : Given) : Type 0 where
  pub words : List Word
  pub more : List Word
  pub positionals : next.positionals ≡ given.positionals ++ words
  pub values : next.values ≡ given.values ++ more

module _ (given : Given) where
  same : (place : Place) → Grows given (record given { place = place })
  same place = record { words = []; more = []; positionals = sym (append-nil given.positionals); values = sym (append-nil given.values) }

  one_word : (word : Word) → Grows given (with_positional word given)
  one_word word = record { words = word ∷ []; more = []; positionals = refl; values = sym (append-nil given.values) }

  one_value : (value : Word) (place : Place) → Grows given (record (with_value value given) { place = place })
  one_value value place = record { words = []; more = value ∷ []; positionals = sym (append-nil given.positionals); values = refl }

  by_test : (b : Bool) (one other : Given) → Grows given one → Grows given other → Grows given (cond b one other)
  by_test true one other is_one is_other = is_one
  by_test false one other is_one is_other = is_other

  or_value_grows : (word : Word) (found : Option Word) → Grows given (or_value given word found)
  or_value_grows word (Some value) = one_value value given.place
  or_value_grows word None = by_test (is_plain word) _ _ (one_word word) (same Refused)

  at_grows : (place : Place) (word : Word) → Grows given (after_at place given word)
  at_grows Open word = by_test (bytes_eq word (codes "--")) _ _ (same Behind) (by_test (bytes_eq word (codes "--workers")) _ _ (same Value) (or_value_grows word (value_in word)))
  at_grows Value word = one_value word Open
  at_grows Behind word = one_word word
  at_grows Refused word = same given.place

both_grow : (one next last : Given) → Grows one next → Grows next last → Grows one last
both_grow one next last first second = record {
  words = first.words ++ second.words;
  more = first.more ++ second.more;
  positionals = second.positionals ∙ ap (λ xs. xs ++ second.words) first.positionals ∙ append_assoc one.positionals first.words second.words;
  values = second.values ∙ ap (λ xs. xs ++ second.more) first.values ∙ append_assoc one.values first.more second.more;
}

all_grow : (words : List Word) (given : Given) → Grows given (fold after_word given words)
all_grow [] given = same given given.place
all_grow (word ∷ words) given = both_grow given (after_word given word) _ (at_grows given given.place word) (all_grow words (after_word given word))

-- ---- what spoils words

pub two_words : (given : Given) (one other : Word) → given.positionals ≡ one ∷ other ∷ [] → Spoilt given
two_words given one other are words word number ends only workers =
    let more = all_grow words given in
    let bad : one ∷ other ∷ more.words ≡ word ∷ [] = sym (more.positionals ∙ ap (λ xs. xs ++ more.words) are) ∙ only in
    absurd (cc)

no_workers : (one other : Word) (more values : List Word) (number : Option ℕ) → values ≡ one ∷ other ∷ more → AreWorkers values number → ⊥
no_workers one other more values None are is = let bad : one ∷ other ∷ more ≡ [] = sym are ∙ is in absurd (cc)
no_workers one other more values (Some number) are is = let bad : one ∷ other ∷ more ≡ is.0 ∷ [] = sym are ∙ is.1 in absurd (cc)

pub two_values : (given : Given) (one other : Word) → given.values ≡ one ∷ other ∷ [] → Spoilt given
two_values given one other are words word number ends only workers =
    let more = all_grow words given in
    no_workers one other more.more _ number (more.values ∙ ap (λ xs. xs ++ more.more) are) workers

no_number : (value : Word) (more values : List Word) (number : Option ℕ) → all_ascii_digits value ≡ false → values ≡ value ∷ more → AreWorkers values number → ⊥
no_number value more values None bad are is = let worse : value ∷ more ≡ [] = sym are ∙ is in absurd (cc)
no_number value more values (Some number) bad are is =
    let same : value ≡ is.0 = ap (λ xs. head_or value xs) (sym are ∙ is.1) in
    let worse : false ≡ true = sym bad ∙ ap all_ascii_digits same ∙ is.2.digits in
    absurd (cc)
  where
    head_or : Word → List Word → Word
    head_or word [] = word
    head_or word (first ∷ rest) = first

pub bad_value : (given : Given) (value : Word) (more : List Word) → all_ascii_digits value ≡ false → given.values ≡ value ∷ more → Spoilt given
bad_value given value rest bad are words word number ends only workers =
    let more = all_grow words given in
    no_number value (rest ++ more.more) _ number bad (more.values ∙ ap (λ xs. xs ++ more.more) are) workers

pub refused : (ps vs : List Word) → Spoilt (refused_with ps vs)
refused ps vs words word number ends only workers =
    let bad : false ≡ true = sym (ap (λ given. may_end given.place) (refused_stays words ps vs)) ∙ ends in
    absurd (cc)
