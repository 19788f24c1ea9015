-- A mark's word, which stands between brackets, and how a mark may be written.
use Rattle.std.proofs.Common.{◌≡◌, ℕ, ◌+◌, ◌<◌, ◌≤◌, Bool, true, false, cond, leb, eqb, bytes_eq, codes, List, [], ◌∷◌, ◌++◌, length, take, drop, Option, Some, None, option_map, refl, sym, ap, ◌∙◌, subst, ◌⊎◌, ⊎_elim, inl, inr, arith}
use Rattle.std.proofs.lemmas.Bool.{and_from, and_parts, or_from, false_from_ne_true, leb-true, le-leb, ne_eqb}
use Rattle.std.proofs.lemmas.List.{take-append-drop}
use Rattle.std.proofs.lemmas.Slice.Eq.{bytes_eq-Decides}
use Rattle.std.specs.Fmt.{decimal}
use Rattle.std.specs.List.{list_any, starts_with}
use Rattle.graph_types.specs.declared.part.Part.{Part}
use Rattle.graph_types.specs.declared.part.Part.TheVariants.{Fixed, Name, Id, Hash}
use Rattle.graph_types.specs.Parts.{is_part}
use Rattle.asset_names.specs.Reading.{is_open, is_close, mark_of, marked_number, number_behind}
use Rattle.asset_names.specs.Template.{IsSpelling, is_sound, is_fixed}
use Rattle.asset_names.proofs.Numbers.{number_of-decimal, number_of-some, decimal_shape}

-- ---- from a mark to its word

-- a mark is written as a word between brackets, and the word has none
pub record HasWord (digits : ℕ) (part : Part) (spelling : List ℕ) : Type 0 where
  pub word : List ℕ
  pub written : spelling ≡ 91 ∷ word ++ 93 ∷ []
  pub mark : mark_of digits word ≡ Some part
  pub no_open : list_any is_open word ≡ false
  pub no_close : list_any is_close word ≡ false

digits_lack : (bracket n : ℕ) → 57 < bracket → n ≤ 64 → list_any (λ byte. eqb byte bracket) (decimal n) ≡ false
digits_lack bracket n above high =
    ⊎_elim
    (λ (one : (first : ℕ) × (first < 10) × (decimal n ≡ (48 + first) ∷ [])).
    let differs : eqb (48 + one.0) bracket ≡ false = ne_eqb _ _ (λ e. absurd (omega (arith, one.1))) in
    ap (list_any (λ byte. eqb byte bracket)) one.2 ∙ or_from _ _ differs refl)
    (λ (two : (first : ℕ) × (second : ℕ) × (first < 10) × (second < 10) × (decimal n ≡ (48 + first) ∷ (48 + second) ∷ [])).
    let first : eqb (48 + two.0) bracket ≡ false = ne_eqb _ _ (λ e. absurd (omega (arith, two.2))) in
    let second : eqb (48 + two.1) bracket ≡ false = ne_eqb _ _ (λ e. absurd (omega (arith, two.3))) in
    ap (list_any (λ byte. eqb byte bracket)) two.4 ∙ or_from _ _ first (or_from _ _ second refl))
    (decimal_shape n high)

range_of : (n : ℕ) → is_part (Hash n) ≡ true → (1 ≤ n) × (n ≤ 64)
range_of n e =
    let parts = and_parts (leb 1 n) (leb n 64) e in
    (leb-true _ _ parts.0, leb-true _ _ parts.1)

hash_word : (digits n : ℕ) (spelling : List ℕ) → is_part (Hash n) ≡ true → (spelling ≡ codes "[contenthash:" ++ decimal n ++ codes "]") ⊎ ((n ≡ digits) × (spelling ≡ codes "[contenthash]")) → HasWord digits (Hash n) spelling
hash_word digits n spelling own (inl e) =
    let range = range_of n own in
    record {
      word = codes "contenthash:" ++ decimal n;
      written = e;
      mark = ap (option_map (λ (k : ℕ). Hash k)) (number_of-decimal n range.0 range.1);
      no_open = digits_lack 91 n (omega arith) range.1;
      no_close = digits_lack 93 n (omega arith) range.1;
    }
hash_word digits n spelling own (inr e) =
    record { word = codes "contenthash"; written = e.1; mark = ap (λ (k : ℕ). Some (Hash k)) (sym e.0); no_open = refl; no_close = refl }

pub has_word : (digits : ℕ) (part : Part) (spelling : List ℕ) → is_fixed part ≡ false → is_part part ≡ true → IsSpelling digits part spelling → HasWord digits part spelling
has_word digits (Fixed text) spelling mark own e = cc
has_word digits Name spelling mark own e = record { word = codes "name"; written = e; mark = refl; no_open = refl; no_close = refl }
has_word digits Id spelling mark own e = record { word = codes "id"; written = e; mark = refl; no_open = refl; no_close = refl }
has_word digits (Hash n) spelling mark own e = hash_word digits n spelling own e

-- ---- from a word to its mark

-- a word gives a mark that may be written so
pub record IsMark (digits : ℕ) (part : Part) (word : List ℕ) : Type 0 where
  pub spelling : IsSpelling digits part (91 ∷ word ++ 93 ∷ [])
  pub mark : is_fixed part ≡ false
  pub sound : is_sound part ≡ true
  pub in_range : is_part part ≡ true

starts_split : (before word : List ℕ) → starts_with eqb word before ≡ true → word ≡ before ++ drop (length before) word
starts_split before word e =
    let front : before ≡ take (length before) word = (bytes_eq-Decides before (take (length before) word)).0 e in
    sym (take-append-drop (length before) word) ∙ ap (λ (xs : List ℕ). xs ++ drop (length before) word) (sym front)

with_number : (digits n : ℕ) (word : List ℕ) → number_behind (codes "contenthash:") word ≡ Some n → IsMark digits (Hash n) word
with_number digits n word e = by_test (starts_with eqb word (codes "contenthash:")) refl e
  where
    by_test : (starts : Bool) → starts_with eqb word (codes "contenthash:") ≡ starts → cond starts (marked_number (drop 12 word)) None ≡ Some n → IsMark digits (Hash n) word
    by_test true t e =
        let number = number_of-some (drop 12 word) n e in
        let split = starts_split (codes "contenthash:") word t in
        let written : word ≡ codes "contenthash:" ++ decimal n = split ∙ ap (λ xs. codes "contenthash:" ++ xs) number.2 in
        record {
          spelling = inl (ap (λ xs. 91 ∷ xs ++ 93 ∷ []) written);
          mark = refl;
          sound = refl;
          in_range = and_from _ _ (le-leb _ _ number.0) (le-leb _ _ number.1);
        }
    by_test false t e = cc

by_number : (digits : ℕ) (word : List ℕ) (part : Part) (number : Option ℕ) → number_behind (codes "contenthash:") word ≡ number → option_map (λ (n : ℕ). Hash n) number ≡ Some part → IsMark digits part word
by_number digits word part None is e = cc
by_number digits word part (Some n) is e =
    let same : Hash n ≡ part = cc in
    subst (λ p. IsMark digits p word) same (with_number digits n word is)

by_words : (digits : ℕ) (word : List ℕ) (part : Part) (name id hash : Bool) → 1 ≤ digits → digits ≤ 64 → bytes_eq word (codes "name") ≡ name → bytes_eq word (codes "id") ≡ id → bytes_eq word (codes "contenthash") ≡ hash → cond name (Some Name) (cond id (Some Id) (cond hash (Some (Hash digits)) (option_map (λ (n : ℕ). Hash n) (number_behind (codes "contenthash:") word)))) ≡ Some part → IsMark digits part word
by_words digits word part true id hash low high n i h e =
    let same : Name ≡ part = cc in
    let written : word ≡ codes "name" = (bytes_eq-Decides word (codes "name")).0 n in
    subst (λ p. IsMark digits p word) same (record { spelling = ap (λ xs. 91 ∷ xs ++ 93 ∷ []) written; mark = refl; sound = refl; in_range = refl })
by_words digits word part false true hash low high n i h e =
    let same : Id ≡ part = cc in
    let written : word ≡ codes "id" = (bytes_eq-Decides word (codes "id")).0 i in
    subst (λ p. IsMark digits p word) same (record { spelling = ap (λ xs. 91 ∷ xs ++ 93 ∷ []) written; mark = refl; sound = refl; in_range = refl })
by_words digits word part false false true low high n i h e =
    let same : Hash digits ≡ part = cc in
    let written : word ≡ codes "contenthash" = (bytes_eq-Decides word (codes "contenthash")).0 h in
    subst (λ p. IsMark digits p word) same (record {
      spelling = inr (refl, ap (λ xs. 91 ∷ xs ++ 93 ∷ []) written);
      mark = refl;
      sound = refl;
      in_range = and_from _ _ (le-leb _ _ low) (le-leb _ _ high);
    })
by_words digits word part false false false low high n i h e = by_number digits word part (number_behind (codes "contenthash:") word) refl e

pub is_mark : (digits : ℕ) (word : List ℕ) (part : Part) → 1 ≤ digits → digits ≤ 64 → mark_of digits word ≡ Some part → IsMark digits part word
is_mark digits word part low high e =
    by_words digits word part (bytes_eq word (codes "name")) (bytes_eq word (codes "id")) (bytes_eq word (codes "contenthash")) low high refl refl refl e

-- ---- the words that are none

differs : (xs ys : List ℕ) → (xs ≡ ys → ⊥) → bytes_eq xs ys ≡ false
differs xs ys other = false_from_ne_true _ (λ e. other ((bytes_eq-Decides xs ys).0 e))

pub number_mark : (digits : ℕ) (word : List ℕ) → (word ≡ codes "name" → ⊥) → (word ≡ codes "id" → ⊥) → (word ≡ codes "contenthash" → ⊥) → mark_of digits word ≡ option_map (λ (n : ℕ). Hash n) (number_behind (codes "contenthash:") word)
number_mark digits word no_name no_id no_hash =
    rw (differs word (codes "name") no_name, differs word (codes "id") no_id, differs word (codes "contenthash") no_hash)

pub number_behind-none : (before word : List ℕ) → ((rest : List ℕ) → word ≡ before ++ rest → ⊥) → number_behind before word ≡ None
number_behind-none before word none =
    rw (false_from_ne_true (starts_with eqb word before) (λ e. none (drop (length before) word) (starts_split before word e)))
