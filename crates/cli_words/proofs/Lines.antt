-- What is taken word by word is what the grammar gives, and the other way round.
use Rattle.std.proofs.Common.{◌≡◌, Bool, true, false, cond, List, [], ◌∷◌, ◌++◌, length, drop, codes, bytes_eq, nat_eq, Option, Some, None, refl, sym, ap, subst, ◌∙◌}
use Rattle.std.proofs.lemmas.Bool.{and_parts, and_from}
use Rattle.std.proofs.lemmas.Bool.Decides.{Decides-eqb}
use Rattle.std.proofs.lemmas.List.{append-nil, append_assoc}
use Rattle.std.proofs.lemmas.Slice.Eq.{bytes_eq-Decides, starts_is}
use Rattle.std.specs.List.{flat_map, fold, list_all, starts_with}
use Rattle.cli_words.specs.Words.{Argument, Gives, Word, is_argument, is_plain, positional, positional_of, spelled, spelled_end, value_of, words_behind, workers, workers_is}
use Rattle.cli_words.specs.inner.Line.{Given, after_open, after_word, behind_with, may_end, named_value, no_words, open_with, or_value, refused_with, value_in, value_with}
use Rattle.cli_words.proofs.Numbers.{some_same}

-- ---- where words stand that are no arguments

abbrev ended : Option (List Word) → List Word → List Word → Given
ended None ps vs = open_with ps vs
ended (Some words) ps vs = behind_with (ps ++ words) vs

all_behind : (words ps vs : List Word) → fold after_word (behind_with ps vs) words ≡ behind_with (ps ++ words) vs
all_behind [] ps vs = ap (λ xs. behind_with xs vs) (sym (append-nil ps))
all_behind (word ∷ words) ps vs = all_behind words (ps ++ word ∷ []) vs ∙ ap (λ xs. behind_with xs vs) (append_assoc ps (word ∷ []) words)

pub refused_stays : (words ps vs : List Word) → fold after_word (refused_with ps vs) words ≡ refused_with ps vs
refused_stays [] ps vs = refl
refused_stays (word ∷ words) ps vs = refused_stays words ps vs

-- ---- a word that is no option

by_same : (word other : Word) (b : Bool) → bytes_eq word other ≡ b → is_plain word ≡ true → is_plain other ≡ false → b ≡ false
by_same word other true e plain option =
    let same : word ≡ other = (bytes_eq-Decides word other).0 e in
    sym plain ∙ ap is_plain same ∙ option
by_same word other false e plain option = refl

pub differs : (word other : Word) → is_plain word ≡ true → is_plain other ≡ false → bytes_eq word other ≡ false
differs word other plain option = by_same word other (bytes_eq word other) refl plain option

by_front : (word : Word) (b : Bool) → starts_with nat_eq word named_value ≡ b → cond b (Some (drop (length named_value) word)) None ≡ value_in word → (value : Word) → value_in word ≡ Some value → word ≡ named_value ++ value
by_front word true e is value some =
    (starts_is Decides-eqb word named_value true (sym e)).0 refl ∙ ap (λ xs. named_value ++ xs) (some_same (drop (length named_value) word) value (is ∙ some))
by_front word false e is value some = absurd (cc)

pub value_written : (word value : Word) → value_in word ≡ Some value → word ≡ named_value ++ value
value_written word value e = by_front word (starts_with nat_eq word named_value) refl refl value e

no_value_by : (word : Word) (found : Option Word) → value_in word ≡ found → is_plain word ≡ true → found ≡ None
no_value_by word None e plain = refl
no_value_by word (Some value) e plain =
    let bad : is_plain word ≡ false = ap is_plain (value_written word value e) in
    absurd (cc)

pub plain_word : (word : Word) (ps vs : List Word) → is_plain word ≡ true → after_open (open_with ps vs) word ≡ open_with (ps ++ word ∷ []) vs
plain_word word ps vs plain =
    let first = differs word (codes "--") plain refl in
    let second = differs word (codes "--workers") plain refl in
    let third = no_value_by word (value_in word) refl plain in
    rw (first, second) (ap (or_value (open_with ps vs) word) third ∙ rw plain refl)

pub refused_word : (word : Word) (ps vs : List Word) → is_plain word ≡ false → bytes_eq word (codes "--") ≡ false → bytes_eq word (codes "--workers") ≡ false → value_in word ≡ None →
    after_open (open_with ps vs) word ≡ refused_with ps vs
refused_word word ps vs plain first second third = rw (first, second) (ap (or_value (open_with ps vs) word) third ∙ rw plain refl)

-- ---- what the grammar gives is what is taken

taken : (arguments : List Argument) (end : Option (List Word)) (ps vs : List Word) → list_all is_argument arguments ≡ true →
    fold after_word (open_with ps vs) (flat_map spelled arguments ++ spelled_end end) ≡ ended end (ps ++ flat_map positional_of arguments) (vs ++ flat_map value_of arguments)
taken [] None ps vs all = sym (ap (λ xs. open_with xs (vs ++ [])) (append-nil ps) ∙ ap (λ xs. open_with ps xs) (append-nil vs))
taken [] (Some words) ps vs all =
    all_behind words ps vs ∙ sym (ap (λ xs. behind_with (xs ++ words) (vs ++ [])) (append-nil ps) ∙ ap (λ xs. behind_with (ps ++ words) xs) (append-nil vs))
taken (positional word ∷ arguments) end ps vs all =
    let parts = and_parts (is_plain word) (list_all is_argument arguments) all in
    ap (λ given. fold after_word given (flat_map spelled arguments ++ spelled_end end)) (plain_word word ps vs parts.0)
    ∙ taken arguments end (ps ++ word ∷ []) vs parts.1
    ∙ ap (λ xs. ended end xs (vs ++ flat_map value_of arguments)) (append_assoc ps (word ∷ []) (flat_map positional_of arguments))
taken (workers value ∷ arguments) end ps vs all =
    taken arguments end ps (vs ++ value ∷ []) all
    ∙ ap (λ xs. ended end (ps ++ flat_map positional_of arguments) xs) (append_assoc vs (value ∷ []) (flat_map value_of arguments))
taken (workers_is value ∷ arguments) end ps vs all =
    taken arguments end ps (vs ++ value ∷ []) all
    ∙ ap (λ xs. ended end (ps ++ flat_map positional_of arguments) xs) (append_assoc vs (value ∷ []) (flat_map value_of arguments))

pub record IsTaken (given : Given) (ps vs : List Word) : Type 0 where
  pub may_end : may_end given.place ≡ true
  pub positionals : given.positionals ≡ ps
  pub values : given.values ≡ vs

ended_is : (end : Option (List Word)) (ps vs : List Word) → IsTaken (ended end ps vs) (ps ++ words_behind end) vs
ended_is None ps vs = record { may_end = refl; positionals = sym (append-nil ps); values = refl }
ended_is (Some words) ps vs = record { may_end = refl; positionals = refl; values = refl }

pub gives_taken : (words ps vs : List Word) → Gives words ps vs → IsTaken (fold after_word no_words words) ps vs
gives_taken words ps vs is =
    let all = taken is.arguments is.end [] [] is.arguments_are in
    let ends = ended_is is.end (flat_map positional_of is.arguments) (flat_map value_of is.arguments) in
    let same : fold after_word no_words words ≡ ended is.end (flat_map positional_of is.arguments) (flat_map value_of is.arguments) =
    ap (fold after_word no_words) is.spelled ∙ all in
    record {
      may_end = ap (λ given. may_end given.place) same ∙ ends.may_end;
      positionals = ap (λ given. given.positionals) same ∙ ends.positionals ∙ sym is.positionals_are;
      values = ap (λ given. given.values) same ∙ ends.values ∙ sym is.values_are;
    }

-- ---- what is taken is what the grammar gives

-- the words give so many more than there were
record GivesMore (words ps vs : List Word) (given : Given) : Type 0 where
  pub arguments : List Argument
  pub end : Option (List Word)
  pub spelled_so : words ≡ flat_map spelled arguments ++ spelled_end end
  pub arguments_are : list_all is_argument arguments ≡ true
  pub positionals_are : given.positionals ≡ ps ++ (flat_map positional_of arguments ++ words_behind end)
  pub values_are : given.values ≡ vs ++ flat_map value_of arguments

none_more : (ps vs : List Word) → GivesMore [] ps vs (open_with ps vs)
none_more ps vs = record {
  arguments = [];
  end = None;
  spelled_so = refl;
  arguments_are = refl;
  positionals_are = sym (append-nil ps);
  values_are = sym (append-nil vs);
}

end_more : (words ps vs : List Word) → GivesMore (codes "--" ∷ words) ps vs (fold after_word (behind_with ps vs) words)
end_more words ps vs = record {
  arguments = [];
  end = Some words;
  spelled_so = refl;
  arguments_are = refl;
  positionals_are = ap (λ given. given.positionals) (all_behind words ps vs);
  values_are = ap (λ given. given.values) (all_behind words ps vs) ∙ sym (append-nil vs);
}

one_more : (argument : Argument) (words ps vs : List Word) (given : Given) → is_argument argument ≡ true →
    GivesMore words (ps ++ positional_of argument) (vs ++ value_of argument) given → GivesMore (spelled argument ++ words) ps vs given
one_more argument words ps vs given is more = record {
  arguments = argument ∷ more.arguments;
  end = more.end;
  spelled_so = ap (λ xs. spelled argument ++ xs) more.spelled_so ∙ sym (append_assoc (spelled argument) (flat_map spelled more.arguments) (spelled_end more.end));
  arguments_are = and_from (is_argument argument) (list_all is_argument more.arguments) is more.arguments_are;
  positionals_are = more.positionals_are ∙ append_assoc ps (positional_of argument) (flat_map positional_of more.arguments ++ words_behind more.end)
      ∙ ap (λ xs. ps ++ xs) (sym (append_assoc (positional_of argument) (flat_map positional_of more.arguments) (words_behind more.end)));
  values_are = more.values_are ∙ append_assoc vs (value_of argument) (flat_map value_of more.arguments);
}

positional_more : (word : Word) (words ps vs : List Word) (given : Given) → is_plain word ≡ true → GivesMore words (ps ++ word ∷ []) vs given → GivesMore (word ∷ words) ps vs given
positional_more word words ps vs given plain more =
    one_more (positional word) words ps vs given plain (subst (λ xs. GivesMore words (ps ++ word ∷ []) xs given) (sym (append-nil vs)) more)

value_more : (value : Word) (words ps vs : List Word) (given : Given) → GivesMore words ps (vs ++ value ∷ []) given → GivesMore words (ps ++ []) (vs ++ value ∷ []) given
value_more value words ps vs given more = subst (λ xs. GivesMore words xs (vs ++ value ∷ []) given) (sym (append-nil ps)) more

-- what is to be shown of words where an argument may stand
abbrev Shown : List Word → Type 0
Shown words = (ps vs : List Word) → may_end (fold after_word (open_with ps vs) words).place ≡ true → GivesMore words ps vs (fold after_word (open_with ps vs) words)

-- and of words behind `--workers`
abbrev ShownValue : List Word → Type 0
ShownValue words = (ps vs : List Word) → may_end (fold after_word (value_with ps vs) words).place ≡ true → GivesMore (codes "--workers" ∷ words) ps vs (fold after_word (value_with ps vs) words)

module _ (word : Word) (words ps vs : List Word) (shown : Shown words) (shown_value : ShownValue words) where
  abbrev Goal : Word → Type 0
  Goal first = may_end (fold after_word (after_open (open_with ps vs) first) words).place ≡ true
      → GivesMore (first ∷ words) ps vs (fold after_word (after_open (open_with ps vs) first) words)

  abbrev GoalAt : Given → Type 0
  GoalAt given = may_end (fold after_word given words).place ≡ true → GivesMore (word ∷ words) ps vs (fold after_word given words)

  at_plain : (b : Bool) → is_plain word ≡ b → bytes_eq word (codes "--") ≡ false → bytes_eq word (codes "--workers") ≡ false → value_in word ≡ None → Goal word
  at_plain true plain first second third =
      subst GoalAt (sym (plain_word word ps vs plain))
      (λ done. positional_more word words ps vs _ plain (shown (ps ++ word ∷ []) vs done))
  at_plain false plain first second third =
      subst GoalAt (sym (refused_word word ps vs plain first second third)) (λ done. let bad : false ≡ true = sym (ap (λ given. may_end given.place) (refused_stays words ps vs)) ∙ done in absurd (cc))

  at_value : (found : Option Word) → value_in word ≡ found → bytes_eq word (codes "--") ≡ false → bytes_eq word (codes "--workers") ≡ false → Goal word
  at_value (Some value) e first second =
      subst Goal (sym (value_written word value e)) (λ done. one_more (workers_is value) words ps vs _ refl (value_more value words ps vs _ (shown ps (vs ++ value ∷ []) done)))
  at_value None e first second = at_plain (is_plain word) refl first second e

  at_workers : (b : Bool) → bytes_eq word (codes "--workers") ≡ b → bytes_eq word (codes "--") ≡ false → Goal word
  at_workers true e first = subst Goal (sym ((bytes_eq-Decides word (codes "--workers")).0 e)) (λ done. shown_value ps vs done)
  at_workers false e first = at_value (value_in word) refl first e

  at_end : (b : Bool) → bytes_eq word (codes "--") ≡ b → Goal word
  at_end true e = subst Goal (sym ((bytes_eq-Decides word (codes "--")).0 e)) (λ done. end_more words ps vs)
  at_end false e = at_workers (bytes_eq word (codes "--workers")) refl e

  at_word : Goal word
  at_word = at_end (bytes_eq word (codes "--")) refl

no_value : ShownValue []
no_value ps vs done = absurd (cc)

a_value : (value : Word) (words : List Word) → Shown words → ShownValue (value ∷ words)
a_value value words shown ps vs done = one_more (workers value) words ps vs _ refl (value_more value words ps vs _ (shown ps (vs ++ value ∷ []) done))

shown_all : (words : List Word) → Shown words
shown_all [] ps vs done = none_more ps vs
shown_all (word ∷ []) ps vs done = at_word word [] ps vs (shown_all []) no_value done
shown_all (word ∷ next ∷ words) ps vs done = at_word word (next ∷ words) ps vs (shown_all (next ∷ words)) (a_value next words (shown_all words)) done

pub taken_gives : (words : List Word) → may_end (fold after_word no_words words).place ≡ true →
    Gives words (fold after_word no_words words).positionals (fold after_word no_words words).values
taken_gives words done =
    let more = shown_all words [] [] done in
    record {
      arguments = more.arguments;
      end = more.end;
      spelled = more.spelled_so;
      arguments_are = more.arguments_are;
      positionals_are = more.positionals_are;
      values_are = more.values_are;
    }
