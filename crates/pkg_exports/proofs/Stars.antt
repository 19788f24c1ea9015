-- A key around its `*`.
use Rattle.std.proofs.Common.{◌≡◌, ◌≢◌, ℕ, suc, ◌+◌, ◌-◌, ◌^◌, ◌<◌, ◌≤◌, Bool, true, false, not, ◌&&◌, ◌||◌, cond, eqb, leb, ltb, List, [], ◌∷◌, length, take, drop, get_or, count_by, Option, Some, None, Result, Ok, Err, refl, sym, ap, ◌∙◌, subst, inl, inr, lit<, arith}
use Rattle.std.specs.Cmp.Lexicographic.{pointwise}
use Rattle.std.specs.List.{after_first, ends_with, list_any, position, position_or_len, starts_with, slice_range}
use Rattle.std.specs.Borrow.{Bor}
use Rattle.std.specs.Option.{MatchOption, option_copied, unwrap_or}
use Rattle.std.specs.Result.{MatchResult}
use Rattle.std.specs.Str.{IsCharBoundary, all_ascii_digits, bytes_eq}
use Rattle.std.specs.Str.Parse.{ParsesUnsigned, digits_value}
use Rattle.std.specs.Str.Pattern.{FindsTextPrefix, FindsTextSuffix, StripsSuffix}
use Rattle.std.proofs.lemmas.List.{drop-drop, length-drop, length-take}
use Rattle.std.proofs.lemmas.List.Recursion.{is_count_by}
use Rattle.std.proofs.lemmas.List.Sums.{prefix_len-le-length}
use Rattle.std.proofs.lemmas.Slice.Eq.{bytes_eq-Decides}
use Rattle.std.proofs.lemmas.Str.Parse.{IsNumeralModel, numerals_by_value, parse_plain, tells_all_ascii_digits}
use Rattle.std.proofs.lemmas.Str.Pattern.{IsSplitOnceResult, ends_text, split_once_first, starts_text}
use Rattle.std.proofs.lemmas.Bool.{cases_lt}
use Rattle.std.proofs.lemmas.Bool.Decides.{leb_tells, nat_tests}
use Rattle.pkg_exports.specs.Keys.{is_match, is_star, part_after, part_before}

abbrev counted : {X : Type 0} → (X → Bool) → List X → ℕ
counted p [] = 0
counted p (x ∷ xs) = cond (p x) (1 + counted p xs) (counted p xs)

counted_is : {X : Type 0} (p : X → Bool) (xs : List X) → counted p xs ≡ count_by p xs
counted_is p xs = is_count_by (counted p) p refl (λ x rest. refl) xs

-- none passes where the first place is the end
none_step : (b : Bool) (n place len : ℕ) → (place ≡ len → n ≡ 0) → cond (not b) (1 + place) 0 ≡ suc len → cond b (1 + n) n ≡ 0
none_step true n place len ih e = absurd (omega (arith, e))
none_step false n place len ih e = ih (omega (arith, e))

counted_none : {X : Type 0} (p : X → Bool) (xs : List X) → position_or_len p xs ≡ length xs → counted p xs ≡ 0
counted_none p [] e = refl
counted_none p (x ∷ xs) e = none_step (p x) (counted p xs) (position_or_len p xs) (length xs) (counted_none p xs) e

-- all that pass: the first, and those after it
more_step : {X : Type 0} (p : X → Bool) (x : X) (xs : List X) (b : Bool) → (position_or_len p xs < length xs → counted p xs ≡ 1 + counted p (after_first p xs)) →
    cond (not b) (1 + position_or_len p xs) 0 < suc (length xs) →
    cond b (1 + counted p xs) (counted p xs) ≡ 1 + counted p (drop (cond (not b) (1 + position_or_len p xs) 0 + 1) (x ∷ xs))
more_step p x xs true ih l = refl
more_step p x xs false ih l =
    let e : (1 + position_or_len p xs) + 1 ≡ suc (position_or_len p xs + 1) = omega arith in
    rw e (ih (omega (arith, l)))

counted_more : {X : Type 0} (p : X → Bool) (xs : List X) → position_or_len p xs < length xs → counted p xs ≡ 1 + counted p (after_first p xs)
counted_more p [] l = absurd (omega (arith, l))
counted_more p (x ∷ xs) l = more_step p x xs (p x) (counted_more p xs) l

any_step : (b rest : Bool) (n : ℕ) → (rest ≡ false → n ≡ 0) → (rest ≡ true → 0 < n) → ((b || rest) ≡ false → cond b (1 + n) n ≡ 0) × ((b || rest) ≡ true → 0 < cond b (1 + n) n)
any_step true rest n none some = (λ e. cc, λ e. omega arith)
any_step false rest n none some = (none, some)

counted_any : {X : Type 0} (p : X → Bool) (xs : List X) → (list_any p xs ≡ false → counted p xs ≡ 0) × (list_any p xs ≡ true → 0 < counted p xs)
counted_any p [] = (λ e. refl, λ e. cc)
counted_any p (x ∷ xs) = any_step (p x) (list_any p xs) (counted p xs) (counted_any p xs).0 (counted_any p xs).1

pub one_star : {X : Type 0} (p : X → Bool) (xs : List X) → position_or_len p xs < length xs → list_any p (after_first p xs) ≡ false → count_by p xs ≡ 1
one_star p xs l e = omega (arith, counted_is p xs, counted_more p xs l, (counted_any p (after_first p xs)).0 e)

pub no_star : {X : Type 0} (p : X → Bool) (xs : List X) → position_or_len p xs ≡ length xs → count_by p xs ≢ 1
no_star p xs e one = omega (arith, counted_is p xs, counted_none p xs e)

pub more_stars : {X : Type 0} (p : X → Bool) (xs : List X) → position_or_len p xs < length xs → list_any p (after_first p xs) ≡ true → count_by p xs ≢ 1
more_stars p xs l e one = omega (arith, counted_is p xs, counted_more p xs l, (counted_any p (after_first p xs)).1 e)

-- a text is a number that a u32 holds and that isn't its greatest
own : IsNumeralModel (λ ds. all_ascii_digits ds ≡ true) (digits_value 10)
own = numerals_by_value _ tells_all_ascii_digits

nonempty : (text : List ℕ) → 48 < get_or text 0 0 → 0 < length text
nonempty [] above = absurd (omega (arith, above))
nonempty (byte ∷ text) above = omega arith

refused : (b : Bool) (value n : ℕ) → ((b ≡ true) × (0 < n) × (value < 2 ^ 32) → ⊥) → 0 < n → false ≡ (b && leb value 4294967294)
refused false value n h some = refl
refused true value n h some =
    elim (leb_tells value 4294967294) [ inl w ↦ absurd (h (refl, some, omega (arith, w))) | inr w ↦ sym w.0 ]

read_below : (all : Bool) (value : ℕ) → all ≡ true → ltb value 4294967295 ≡ (all && leb value 4294967294)
read_below true value e = grind (arith, nat_tests)
read_below false value e = cc

pub below_max : {E : Type 0} (text : List ℕ) (r : Result ℕ E) → ParsesUnsigned 32 10 text r → 48 < get_or text 0 0 →
    MatchResult r (λ value. ltb value 4294967295 ≡ (all_ascii_digits text && leb (digits_value 10 text) 4294967294)) (λ _. false ≡ (all_ascii_digits text && leb (digits_value 10 text) 4294967294))
below_max {E} text (Ok value) h above =
    let k = parse_plain own {E = E} 32 text (Ok value) h (λ e. omega arith) in
    subst (λ v. ltb v 4294967295 ≡ (all_ascii_digits text && leb (digits_value 10 text) 4294967294)) (sym k.1) (read_below (all_ascii_digits text) (digits_value 10 text) k.0.0)
below_max {E} text (Err e) h above =
    let k = parse_plain own {E = E} 32 text (Err e) h (λ e. omega arith) in
    refused (all_ascii_digits text) (digits_value 10 text) (length text) k (nonempty text above)

-- the two texts around what is between
prefix_true : (text before : List ℕ) (n : ℕ) → FindsTextPrefix before text (Some n) → starts_with eqb text before ≡ true
prefix_true text before n found =
    sym (starts_text true before text (n, found, subst (λ i. IsCharBoundary text i) (sym found.0) found.2))

prefix_false : (text before : List ℕ) → FindsTextPrefix before text None → starts_with eqb text before ≡ false
prefix_false text before none = sym (starts_text false before text none)

suffix_false : (text after : List ℕ) → FindsTextSuffix after text None → ends_with eqb text after ≡ false
suffix_false text after none = sym (ends_text false after text none)

pub cut_none : (text before after : List ℕ) → FindsTextPrefix before text None →
    None ≡ cond (starts_with eqb text before && ends_with eqb (drop (length before) text) after) (Some (slice_range text (length before) (length text - length after))) None
cut_none text before after none = rw (prefix_false text before none) refl

-- what is left behind the first text, and what of that is in front of the last
module _ (text before after rest : List ℕ) (n : ℕ) (found : FindsTextPrefix before text (Some n)) (is : rest ≡ drop n text) where
  behind : drop (length before) text ≡ rest
  behind = ap (λ i. drop i text) (sym found.0) ∙ sym is

  pub cut_some : (r : Option (Bor (List ℕ))) → MatchOption r (FindsTextSuffix after rest None) (λ x. StripsSuffix (FindsTextSuffix after) rest x.now) →
      option_copied r ≡ cond (starts_with eqb text before && ends_with eqb (drop (length before) text) after) (Some (slice_range text (length before) (length text - length after))) None
  cut_some None none = rw (prefix_true text before n found, behind, suffix_false rest after none) refl
  cut_some (Some x) (m, ends, x_is, fits) =
      let long : length rest ≡ length text - n = ap length is ∙ length-drop n text in
      let t : ends_with eqb rest after ≡ true = sym (ends_text true after rest (m, ends, omega arith, subst (λ i. IsCharBoundary rest (length rest - i)) (sym ends.0) ends.2)) in
      let q : length rest - m ≡ length text - length after - length before = omega (arith, ends.0, found.0) in
      rw (prefix_true text before n found, behind, t) (ap Some (x_is ∙ ap (λ i. take i rest) q))

false_unless : (b : Bool) → (b ≡ true → ⊥) → b ≡ false
false_unless true h = absurd (h refl)
false_unless false h = refl

pub around_none : (key : List ℕ) (r : Option (Bor (List ℕ) × Bor (List ℕ))) → IsSplitOnceResult 42 key r → r ≡ None → count_by is_star key ≢ 1
around_none key None h e = no_star is_star key (split_once_first 42 key None h (lit< tt))
around_none key (Some parts) h e = cc

pub placed : {X : Type 0} (p : X → Bool) (xs : List X) → count_by p xs ≡ 1 → position_or_len p xs < length xs
placed p xs e =
    elim (cases_lt (position_or_len p xs) (length xs)) [
      | inl w ↦ w
      | inr w ↦ absurd (no_star p xs (omega (arith, prefix_len-le-length (λ x. not (p x)) xs)) e)
    ]

place_step : (place len : ℕ) → place ≤ len → unwrap_or (cond (ltb place len) (Some place) None) len ≡ place
place_step place len le = elim (leb_tells (suc place) len) [ inl w ↦ rw w.0 refl | inr w ↦ rw w.0 (omega (arith, w.1)) ]

pub place_or_end : {X : Type 0} (p : X → Bool) (xs : List X) → unwrap_or (position p xs) (length xs) ≡ position_or_len p xs
place_or_end p xs = place_step (position_or_len p xs) (length xs) (prefix_len-le-length (λ x. not (p x)) xs)

-- the parts around the only star are as long as the key without it
pub lengths : (key : List ℕ) → position_or_len is_star key < length key → length key ≡ length (part_before key) + 1 + length (part_after key)
lengths key l = omega (arith, length-take (position_or_len is_star key) key, length-drop (position_or_len is_star key + 1) key)

unequal : (xs ys : List ℕ) → length ys < length xs → bytes_eq xs ys ≡ false
unequal xs ys l = false_unless (bytes_eq xs ys) (λ e. let same : length xs ≡ length ys = ap length ((bytes_eq-Decides xs ys).0 e) in omega arith)

behind_end : (text after : List ℕ) (n : ℕ) → n + length after ≤ length text → ends_with eqb text after ≡ ends_with eqb (drop n text) after
behind_end text after n fits =
    let long : length (drop n text) ≡ length text - n = length-drop n text in
    let place : n + (length (drop n text) - length after) ≡ length text - length after = omega arith in
    ap (λ part. pointwise eqb after part) (sym (drop-drop (length (drop n text) - length after) n text ∙ ap (λ i. drop i text) place))

joined_tests : (one starts longer ends fits : Bool) → one ≡ true → longer ≡ false → fits ≡ true → (starts && ends) ≡ (one && starts && not longer && ends && fits)
joined_tests one true longer true fits a b c = rw (a, b, c) refl
joined_tests one true longer false fits a b c = rw (a, b) refl
joined_tests one false longer ends fits a b c = rw a refl

-- a subpath that is long enough matches a key with one star where it begins and then ends as the key does
pub match_test : (subpath key : List ℕ) → count_by is_star key ≡ 1 → length key ≤ length subpath →
    (starts_with eqb subpath (part_before key) && ends_with eqb (drop (length (part_before key)) subpath) (part_after key)) ≡ is_match subpath key
match_test subpath key one fits =
    let long : length key ≡ length (part_before key) + 1 + length (part_after key) = lengths key (placed is_star key one) in
    let e : ends_with eqb subpath (part_after key) ≡ ends_with eqb (drop (length (part_before key)) subpath) (part_after key) = behind_end subpath (part_after key) (length (part_before key)) (omega arith) in
    rw (← e) (joined_tests (eqb (count_by is_star key) 1) (starts_with eqb subpath (part_before key)) (bytes_eq subpath (part_before key)) (ends_with eqb subpath (part_after key)) (leb (length key) (length subpath))
    (rw one refl) (unequal subpath (part_before key) (omega arith)) (grind (arith, nat_tests)))
