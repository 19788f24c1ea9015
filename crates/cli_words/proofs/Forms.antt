-- What a word is to the grammar and to `clap`, where an argument may stand.
use Rattle.std.proofs.Common.{◌≡◌, ◌⊎◌, ℕ, suc, ◌+◌, ◌==◌, Bool, true, false, cond, not, ◌||◌, List, [], ◌∷◌, ◌++◌, length, take, codes, bytes_eq, slice_get, Option, Some, None, option_and_then, refl, sym, ap, ◌∙◌, subst, inl, inr, arith}
use Rattle.std.specs.Option.{option_map_or}
use Rattle.std.specs.List.{before_first, prefix_len}
use Rattle.std.specs.Str.{IsUtf8, all_ascii_digits, chars, encode_utf8_all, is_utf8}
use Rattle.std.proofs.lemmas.Bool.{and_parts}
use Rattle.std.proofs.lemmas.Bool.Decides.{Decides-eqb}
use Rattle.std.proofs.lemmas.Slice.Eq.{bytes_eq-Decides}
use Rattle.std.proofs.lemmas.Str.{encode_ascii, is_utf8-from_IsUtf8}
use Rattle.clap.specs.Lexer.{has_byte, long_of, long_of_rest, name_and_value, short_of, short_of_rest, strip_byte}
use Rattle.clap.specs.Faults.{bundle_fault, bundle_step_fault, flag_word_fault, flags_fault, long_fault}
use Rattle.clap.specs.Walk.{Row, arg_by_long}
use Rattle.clap.specs.declared.error.kind.ErrorKind.TheVariants.{UnknownArgument}
use Rattle.cli_words.specs.Words.{Word, is_plain}
use Rattle.cli_words.specs.inner.Clap.{Pending, held, rules, workers_made}
use Rattle.cli_words.specs.inner.Line.{named_value, value_in}
use Rattle.cli_words.proofs.Lines.{differs, value_written}

-- `clap` reads a positional word
pub record IsPositional (word : Word) : Type 0 where
  pub plain : is_plain word ≡ true
  pub no_end : bytes_eq word (codes "--") ≡ false
  pub no_long : long_of word ≡ None
  pub no_short : short_of word ≡ None

-- `clap` refuses the word, and so does the grammar
pub record IsUnknown (word : Word) : Type 0 where
  pub no_plain : is_plain word ≡ false
  pub no_end : bytes_eq word (codes "--") ≡ false
  pub no_option : bytes_eq word (codes "--workers") ≡ false
  pub no_value : value_in word ≡ None
  pub no_number : all_ascii_digits word ≡ false
  pub fault : (rows : List Row) (pending : Pending) → flag_word_fault rules false (long_of word) word (held rows pending) ≡ UnknownArgument ∷ []

pub data Form (word : Word) : Type 0 where
  is_end : word ≡ codes "--" → Form word
  is_option : word ≡ codes "--workers" → Form word
  is_option_with : (value : Word) → word ≡ named_value ++ value → Form word
  is_positional : IsPositional word → Form word
  is_unknown : IsUnknown word → Form word

-- ---- a word that doesn't begin with `-`, or is `-` alone

alone : (first : ℕ) (rest : Word) → bytes_eq (first ∷ rest) (codes "-") ≡ true → first ∷ rest ≡ codes "-"
alone first rest e = (bytes_eq-Decides (first ∷ rest) (codes "-")).0 e

module _ (first : ℕ) (rest : Word) where
  no_long_by : (b : Bool) → (first == 45) ≡ b → (not b || bytes_eq (first ∷ rest) (codes "-")) ≡ true → long_of (first ∷ rest) ≡ None
  no_long_by true e is = ap long_of (alone first rest is)
  no_long_by false e is = ap (λ b. option_and_then long_of_rest (option_and_then (strip_byte 45) (cond b (Some rest) None))) e

  no_short_by : (b : Bool) → (first == 45) ≡ b → (not b || bytes_eq (first ∷ rest) (codes "-")) ≡ true → short_of (first ∷ rest) ≡ None
  no_short_by true e is = ap short_of (alone first rest is)
  no_short_by false e is = ap (λ b. option_and_then short_of_rest (cond b (Some rest) None)) e

positional_word : (word : Word) → is_plain word ≡ true → IsPositional word
positional_word [] is = record { plain = is; no_end = refl; no_long = refl; no_short = refl }
positional_word (first ∷ rest) is = record {
  plain = is;
  no_end = differs (first ∷ rest) (codes "--") is refl;
  no_long = no_long_by first rest (first == 45) refl is;
  no_short = no_short_by first rest (first == 45) refl is;
}

-- ---- a word that begins with `--`

abbrev name_of : Word → Word
name_of text = before_first (λ x. x == 61) text

abbrev plain_front : Word → ℕ
plain_front text = prefix_len (λ x. not (x == 61)) text

name_here : (first : ℕ) (rest : Word) → (first == 61) ≡ true → name_of (first ∷ rest) ≡ []
name_here first rest e = ap (λ b. take (cond (not b) (1 + plain_front rest) 0) (first ∷ rest)) e

name_more : (first : ℕ) (rest : Word) → (first == 61) ≡ false → name_of (first ∷ rest) ≡ first ∷ name_of rest
name_more first rest e =
    let next : 1 + plain_front rest ≡ suc (plain_front rest) = omega arith in
    ap (λ b. take (cond (not b) (1 + plain_front rest) 0) (first ∷ rest)) e ∙ ap (λ n. take n (first ∷ rest)) next

-- a text with `=` is its name, `=` and a value
cut : (text : Word) → has_byte 61 text ≡ true → (value : Word) × (text ≡ name_of text ++ 61 ∷ value)
cut [] has = absurd (cc)
cut (first ∷ rest) has = by_first (first == 61) refl has (cut rest)
  where
    by_first : (b : Bool) → (first == 61) ≡ b → (b || has_byte 61 rest) ≡ true → (has_byte 61 rest ≡ true → (value : Word) × (rest ≡ name_of rest ++ 61 ∷ value)) →
        (value : Word) × (first ∷ rest ≡ name_of (first ∷ rest) ++ 61 ∷ value)
    by_first true e has more =
        let same : first ≡ 61 = (Decides-eqb first 61).0 e in
        (rest, ap (λ x. x ∷ rest) same ∙ ap (λ xs. xs ++ 61 ∷ rest) (sym (name_here first rest e)))
    by_first false e has more =
        let part = more has in
        (part.0, ap (λ xs. first ∷ xs) part.1 ∙ ap (λ xs. xs ++ 61 ∷ part.0) (sym (name_more first rest e)))

uncut : (text : Word) → has_byte 61 text ≡ false → name_of text ≡ text
uncut [] none = refl
uncut (first ∷ rest) none = by_first (first == 61) refl none (uncut rest)
  where
    by_first : (b : Bool) → (first == 61) ≡ b → (b || has_byte 61 rest) ≡ false → (has_byte 61 rest ≡ false → name_of rest ≡ rest) → name_of (first ∷ rest) ≡ first ∷ rest
    by_first true e none more = absurd (cc)
    by_first false e none more = name_more first rest e ∙ ap (λ xs. first ∷ xs) (more none)

-- a word that begins with `--` and has this name is the option, or has a value
named_option : (text : Word) → name_of text ≡ codes "workers" → (b : Bool) → has_byte 61 text ≡ b → (45 ∷ 45 ∷ text ≡ codes "--workers") ⊎ ((value : Word) × (45 ∷ 45 ∷ text ≡ named_value ++ value))
named_option text named true has =
    let part = cut text has in
    inr (part.0, ap (λ xs. 45 ∷ 45 ∷ xs) (part.1 ∙ ap (λ xs. xs ++ 61 ∷ part.0) named))
named_option text named false none = inl (ap (λ xs. 45 ∷ 45 ∷ xs) (sym (uncut text none) ∙ named))

no_rule : (name : Word) → bytes_eq (codes "workers") name ≡ false → arg_by_long rules name ≡ None
no_rule name differs = ap (λ b. cond (b || false) (Some workers_made) None) differs

-- the word is as the grammar has it, or `clap` knows no argument of its name
by_name : (text : Word) (b : Bool) → bytes_eq (codes "workers") (name_of text) ≡ b →
    ((45 ∷ 45 ∷ text ≡ codes "--workers") ⊎ ((value : Word) × (45 ∷ 45 ∷ text ≡ named_value ++ value))) ⊎ (arg_by_long rules (name_of text) ≡ None)
by_name text true e = inl (named_option text (sym ((bytes_eq-Decides (codes "workers") (name_of text)).0 e)) (has_byte 61 text) refl)
by_name text false e = inr (no_rule (name_of text) e)

-- ---- a word that begins with one `-`

first_by : (first : ℕ) (rest : Word) (cs : List ℕ) → chars (first ∷ rest) ≡ cs → encode_utf8_all (45 ∷ cs) ≡ 45 ∷ first ∷ rest → (c : ℕ) × (slice_get (chars (first ∷ rest)) 0 ≡ Some c)
first_by first rest [] e all =
    let one : encode_utf8_all (45 ∷ []) ≡ 45 ∷ [] = ap (λ xs. xs ++ []) (encode_ascii 45 (omega arith)) in
    let bad : 45 ∷ [] ≡ 45 ∷ first ∷ rest = sym one ∙ all in
    absurd (cc)
first_by first rest (c ∷ cs) e all = (c, ap (λ xs. slice_get xs 0) e)

chars_behind : (first : ℕ) (rest : Word) → chars (45 ∷ first ∷ rest) ≡ 45 ∷ chars (first ∷ rest)
unfolding chars
chars_behind first rest = refl

spelt : (word : Word) → is_utf8 word ≡ true → encode_utf8_all (chars word) ≡ word
unfolding is_utf8
spelt word e = (bytes_eq-Decides (encode_utf8_all (chars word)) word).0 (and_parts _ _ e).1

-- text behind `-` has a first character
first_char : (first : ℕ) (rest : Word) → IsUtf8 (45 ∷ first ∷ rest) → (c : ℕ) × (slice_get (chars (first ∷ rest)) 0 ≡ Some c)
first_char first rest text =
    let all = spelt (45 ∷ first ∷ rest) (is_utf8-from_IsUtf8 (45 ∷ first ∷ rest) text) in
    first_by first rest (chars (first ∷ rest)) refl (sym (ap encode_utf8_all (chars_behind first rest)) ∙ all)

-- no argument has a short name
no_flag : (first : ℕ) (rest : Word) (c : ℕ) (rows : List Row) (pending : Pending) → slice_get (chars (first ∷ rest)) 0 ≡ Some c →
    bundle_fault rules false (first ∷ rest) (held rows pending) ≡ UnknownArgument ∷ []
unfolding flags_fault
no_flag first rest c rows pending e = ap (λ found. bundle_step_fault rules false found (first ∷ rest) 0 (held rows pending) (flags_fault rules false (length rest))) e

-- ---- every word has one of the forms

-- what the grammar's tests say of a word that is no argument
record IsNone (word : Word) : Type 0 where
  pub plain : is_plain word ≡ false
  pub end : bytes_eq word (codes "--") ≡ false
  pub option : bytes_eq word (codes "--workers") ≡ false
  pub value : value_in word ≡ None

unknown_by : (word : Word) → IsNone word → all_ascii_digits word ≡ false →
    ((rows : List Row) (pending : Pending) → flag_word_fault rules false (long_of word) word (held rows pending) ≡ UnknownArgument ∷ []) → Form word
unknown_by word is no_number fault = is_unknown (record {
  no_plain = is.plain;
  no_end = is.end;
  no_option = is.option;
  no_value = is.value;
  no_number = no_number;
  fault = fault;
})

-- a word that begins with `--`
long_form : (text : Word) → IsNone (45 ∷ 45 ∷ text) → Form (45 ∷ 45 ∷ text)
long_form [] is = is_end refl
long_form (first ∷ rest) is = by_rule (by_name (first ∷ rest) (bytes_eq (codes "workers") (name_of (first ∷ rest))) refl)
  where
    by_rule : ((45 ∷ 45 ∷ first ∷ rest ≡ codes "--workers") ⊎ ((value : Word) × (45 ∷ 45 ∷ first ∷ rest ≡ named_value ++ value))) ⊎ (arg_by_long rules (name_of (first ∷ rest)) ≡ None) →
        Form (45 ∷ 45 ∷ first ∷ rest)
    by_rule (inl (inl same)) = is_option same
    by_rule (inl (inr part)) = is_option_with part.0 part.1
    by_rule (inr none) = unknown_by (45 ∷ 45 ∷ first ∷ rest) is refl (λ rows pending. ap (λ found. long_fault rules false found (name_and_value (first ∷ rest)).1 (held rows pending)) none)

-- a word that begins with one `-`
short_form : (first : ℕ) (rest : Word) → (first == 45) ≡ false → IsUtf8 (45 ∷ first ∷ rest) → IsNone (45 ∷ first ∷ rest) → Form (45 ∷ first ∷ rest)
short_form first rest differs text is =
    let char = first_char first rest text in
    let no_long : long_of (45 ∷ first ∷ rest) ≡ None = ap (λ b. option_and_then long_of_rest (cond b (Some rest) None)) differs in
    let flags : short_of (45 ∷ first ∷ rest) ≡ Some (first ∷ rest) = ap (λ b. cond b None (Some (first ∷ rest))) differs in
    unknown_by (45 ∷ first ∷ rest) is refl (λ rows pending.
    ap (λ found. flag_word_fault rules false found (45 ∷ first ∷ rest) (held rows pending)) no_long
    ∙ ap (λ found. option_map_or (λ text. bundle_fault rules false text (held rows pending)) found []) flags
    ∙ no_flag first rest char.0 rows pending char.1)

dash_form : (rest : Word) → IsUtf8 (45 ∷ rest) → IsNone (45 ∷ rest) → Form (45 ∷ rest)
dash_form [] text is = let bad : true ≡ false = is.plain in absurd (cc)
dash_form (first ∷ rest) text is = by_dash (first == 45) refl
  where
    by_dash : (b : Bool) → (first == 45) ≡ b → Form (45 ∷ first ∷ rest)
    by_dash true e =
        let same : first ≡ 45 = (Decides-eqb first 45).0 e in
        subst (λ x. Form (45 ∷ x ∷ rest)) (sym same) (long_form rest (subst (λ x. IsNone (45 ∷ x ∷ rest)) same is))
    by_dash false e = short_form first rest e text is

none_form : (word : Word) → IsUtf8 word → IsNone word → Form word
none_form [] text is = let bad : true ≡ false = is.plain in absurd (cc)
none_form (first ∷ rest) text is = by_dash (first == 45) refl
  where
    by_dash : (b : Bool) → (first == 45) ≡ b → Form (first ∷ rest)
    by_dash true e =
        let same : first ≡ 45 = (Decides-eqb first 45).0 e in
        subst (λ x. Form (x ∷ rest)) (sym same) (dash_form rest (subst (λ x. IsUtf8 (x ∷ rest)) same text) (subst (λ x. IsNone (x ∷ rest)) same is))
    by_dash false e = let bad : true ≡ false = ap (λ b. not b || bytes_eq (first ∷ rest) (codes "-")) (sym e) ∙ is.plain in absurd (cc)

module _ (word : Word) (text : IsUtf8 word) where
  by_plain : (b : Bool) → is_plain word ≡ b → bytes_eq word (codes "--") ≡ false → bytes_eq word (codes "--workers") ≡ false → value_in word ≡ None → Form word
  by_plain true is no_end no_option no_value = is_positional (positional_word word is)
  by_plain false is no_end no_option no_value = none_form word text (record { plain = is; end = no_end; option = no_option; value = no_value })

  by_value : (found : Option Word) → value_in word ≡ found → bytes_eq word (codes "--") ≡ false → bytes_eq word (codes "--workers") ≡ false → Form word
  by_value (Some value) is no_end no_option = is_option_with value (value_written word value is)
  by_value None is no_end no_option = by_plain (is_plain word) refl no_end no_option is

  by_option : (b : Bool) → bytes_eq word (codes "--workers") ≡ b → bytes_eq word (codes "--") ≡ false → Form word
  by_option true is no_end = is_option ((bytes_eq-Decides word (codes "--workers")).0 is)
  by_option false is no_end = by_value (value_in word) refl no_end is

  by_end : (b : Bool) → bytes_eq word (codes "--") ≡ b → Form word
  by_end true is = is_end ((bytes_eq-Decides word (codes "--")).0 is)
  by_end false is = by_option (bytes_eq word (codes "--workers")) refl is

pub form_of : (word : Word) → IsUtf8 word → Form word
form_of word text = by_end word text (bytes_eq word (codes "--")) refl
