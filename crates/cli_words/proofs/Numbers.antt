-- Digits that std's reader refuses write a number beyond every bound.
use Rattle.std.proofs.Common.{◌≡◌, ℕ, ◌<◌, ◌≤◌, ◌^◌, Bool, true, false, cond, ◌&&◌, leb, List, [], ◌∷◌, length, Some, None, unwrap_or, refl, sym, ap, subst, ◌∙◌, arith, Err}
use Rattle.std.specs.Str.{all_ascii_digits}
use Rattle.std.specs.Str.Parse.{digits_value, ParsesUnsigned}
use Rattle.std.proofs.lemmas.Bool.{lt-leb, le-leb, leb-true}
use Rattle.std.proofs.lemmas.Str.Parse.{IsNumeralModel, numerals_by_value, parse_digits, tells_all_ascii_digits}
use Rattle.cli_words.specs.Numbers.{IsNumber}
use Rattle.cli_words.specs.inner.Reading.{has_digits, number_within, within}

own : IsNumeralModel (λ ds. all_ascii_digits ds ≡ true) (digits_value 10)
own = numerals_by_value _ tells_all_ascii_digits

by_test : (a b : Bool) (value : ℕ) → b ≡ false → None ≡ cond (a && b) (Some value) None
by_test true b value e = rw e refl
by_test false b value e = refl

beyond : (low high value : ℕ) → high < 2 ^ 32 → (value < 2 ^ 32 → ⊥) → None ≡ within low high value
beyond low high value fits large =
    let over : high < value = omega (arith, large) in
    by_test (leb low value) (leb value high) value (lt-leb value high over)

pub some_same : {A : Type 0} (one other : A) → Some one ≡ Some other → one ≡ other
some_same one other e = ap (λ found. unwrap_or found one) e

third : (a b c : Bool) → (a && b && c) ≡ true → c ≡ true
third a b true e = refl
third true true false e = e
third true false false e = e
third false true false e = e
third false false false e = e

pub not_read : {E : Type 0} (low high : ℕ) (word : List ℕ) (e : E) → ParsesUnsigned 32 10 word (Err e) → has_digits word ≡ true → high < 2 ^ 32 →
    None ≡ number_within low high word
not_read low high [] e h digits fits = refl
not_read {E} low high (digit ∷ rest) e h digits fits =
    let all : all_ascii_digits (digit ∷ rest) ≡ true = third (leb 1 (length (digit ∷ rest))) (leb (length (digit ∷ rest)) 9) (all_ascii_digits (digit ∷ rest)) digits in
    let none = parse_digits own {E = E} 32 (digit ∷ rest) (Err e) h all in
    beyond low high (digits_value 10 (digit ∷ rest)) fits (λ small. none (omega arith, small))
    ∙ ap (λ b. cond b (within low high (digits_value 10 (digit ∷ rest))) None) (sym digits)

-- ---- a number is what is read

pub number_read : (low high : ℕ) (word : List ℕ) (number : ℕ) → IsNumber low high word number → number_within low high word ≡ Some number
number_read low high word number is =
    let some : leb 1 (length word) ≡ true = le-leb 1 (length word) is.some in
    let few : leb (length word) 9 ≡ true = le-leb (length word) 9 is.few in
    let least : leb low number ≡ true = le-leb low number is.at_least in
    let most : leb number high ≡ true = le-leb number high is.at_most in
    let inside : within low high number ≡ Some number = rw (least, most) refl in
    let digits : has_digits word ≡ true = rw (some, few, is.digits) refl in
    ap (λ b. cond b (within low high (digits_value 10 word)) None) digits ∙ ap (within low high) (sym is.value) ∙ inside

by_bounds : (low high value number : ℕ) (a b : Bool) → leb low value ≡ a → leb value high ≡ b → cond (a && b) (Some value) None ≡ Some number →
    (number ≡ value) × (low ≤ value) × (value ≤ high)
by_bounds low high value number true true least most e = (sym (some_same value number e), leb-true low value least, leb-true value high most)
by_bounds low high value number true false least most e = absurd (cc)
by_bounds low high value number false b least most e = absurd (cc)

by_digits : (low high : ℕ) (word : List ℕ) (number : ℕ) (a b c : Bool) → leb 1 (length word) ≡ a → leb (length word) 9 ≡ b → all_ascii_digits word ≡ c →
    cond (a && b && c) (within low high (digits_value 10 word)) None ≡ Some number → IsNumber low high word number
by_digits low high word number true true true some few digits e =
    let parts = by_bounds low high (digits_value 10 word) number _ _ refl refl e in
    record {
      some = leb-true 1 (length word) some;
      few = leb-true (length word) 9 few;
      digits = digits;
      value = parts.0;
      at_least = subst (λ n. low ≤ n) (sym parts.0) parts.1;
      at_most = subst (λ n. n ≤ high) (sym parts.0) parts.2;
    }
by_digits low high word number true true false some few digits e = absurd (cc)
by_digits low high word number true false c some few digits e = absurd (cc)
by_digits low high word number false b c some few digits e = absurd (cc)

pub is_number : (low high : ℕ) (word : List ℕ) (number : ℕ) → number_within low high word ≡ Some number → IsNumber low high word number
is_number low high word number e = by_digits low high word number (leb 1 (length word)) (leb (length word) 9) (all_ascii_digits word) refl refl refl e
