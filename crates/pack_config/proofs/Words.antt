-- Whole numbers, lists of words and members.
use Rattle.std.proofs.Common.{◌≡◌, ℕ, ◌<◌, ◌^◌, Bool, true, false, cond, ◌&&◌, ◌||◌, eqb, leb, List, [], ◌∷◌, ◌++◌, map, length, bytes_eq, Some, None, refl, sym, ap, ◌∙◌, arith, Err}
use Rattle.std.specs.Char.{is_ascii_digit}
use Rattle.std.specs.List.{list_any, list_all}
use Rattle.std.specs.Str.{all_ascii_digits}
use Rattle.std.specs.Str.Parse.{digits_value, ParsesUnsigned}
use Rattle.std.proofs.lemmas.Bool.{eqb-true, lt-leb}
use Rattle.std.proofs.lemmas.Bool.Decides.{nat_tests}
use Rattle.std.proofs.lemmas.List.Folds.{list_any-append}
use Rattle.std.proofs.lemmas.Str.Parse.{IsNumeralModel, numerals_by_value, parse_digits, tells_all_ascii_digits}
use Rattle.pack_config.specs.Values.{is_listed, is_whole, within, whole_in, magnitude_of}

pub any_map : {X Y : Type 0} (p : Y → Bool) (f : X → Y) (xs : List X) → list_any p (map f xs) ≡ list_any (λ x. p (f x)) xs
any_map p f [] = refl
any_map p f (x ∷ xs) = ap (λ rest. p (f x) || rest) (any_map p f xs)

pub digits_all : (xs : List ℕ) → list_all is_ascii_digit xs ≡ all_ascii_digits xs
digits_all [] = refl
digits_all (x ∷ xs) = ap (λ rest. is_ascii_digit x && rest) (digits_all xs)

pub whole_word : (word : List ℕ) (empty : Bool) → empty ≡ eqb (length word) 0 → empty ≡ false → list_all is_ascii_digit word ≡ is_whole word
whole_word [] empty is not_empty = cc
whole_word (digit ∷ digits) empty is not_empty = digits_all (digit ∷ digits)

pub no_word : (word : List ℕ) (empty : Bool) → empty ≡ eqb (length word) 0 → empty ≡ true → false ≡ is_whole word
no_word [] empty is is_empty = refl
no_word (digit ∷ digits) empty is is_empty =
    let none : eqb (length (digit ∷ digits)) 0 ≡ false = grind (arith, nat_tests) in
    cc

by_first : (byte : ℕ) (rest : List ℕ) (b : Bool) → eqb byte 45 ≡ b → (byte ≡ 45 → ⊥) → byte ∷ rest ≡ cond b rest (byte ∷ rest)
by_first byte rest true e none = absurd (none (eqb-true byte 45 e))
by_first byte rest false e none = refl

pub no_minus : (word : List ℕ) → ((rest : List ℕ) → word ≡ 45 ∷ rest → ⊥) → word ≡ magnitude_of word
no_minus [] none = refl
no_minus (byte ∷ rest) none = by_first byte rest (eqb byte 45) refl (λ e. none rest (ap (λ n. n ∷ rest) e))

own : IsNumeralModel (λ ds. all_ascii_digits ds ≡ true) (digits_value 10)
own = numerals_by_value _ tells_all_ascii_digits

by_test : (a b : Bool) (value : ℕ) → b ≡ false → None ≡ cond (a && b) (Some value) None
by_test true b value e = rw e refl
by_test false b value e = refl

beyond : (low high value : ℕ) → high < 2 ^ 32 → (value < 2 ^ 32 → ⊥) → None ≡ within low high (Some value)
beyond low high value fits large =
    let over : high < value = omega (arith, large) in
    by_test (leb low value) (leb value high) value (lt-leb value high over)

pub not_read : {E : Type 0} (low high : ℕ) (digits : List ℕ) (e : E) → ParsesUnsigned 32 10 digits (Err e) → is_whole digits ≡ true → high < 2 ^ 32 →
    None ≡ within low high (whole_in digits)
not_read low high [] e h whole fits = refl
not_read {E} low high (digit ∷ digits) e h whole fits =
    let none = parse_digits own {E = E} 32 (digit ∷ digits) (Err e) h whole in
    beyond low high (digits_value 10 (digit ∷ digits)) fits (λ small. none (omega arith, small))
    ∙ ap (λ b. within low high (cond b (Some (digits_value 10 (digit ∷ digits))) None)) (sym whole)

pub listed_join : (one other : List (List ℕ)) (word : List ℕ) → is_listed (one ++ other) word ≡ (is_listed one word || is_listed other word)
listed_join one other word = list_any-append (λ key. bytes_eq key word) one other
