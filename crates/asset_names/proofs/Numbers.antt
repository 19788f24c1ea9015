-- A number from 1 to 64: what is read from its decimal digits, and what its digits are.
use Rattle.std.proofs.Common.{◌≡◌, ℕ, ◌+◌, ◌-◌, ◌*◌, ◌/◌, ◌%◌, ◌<◌, ◌≤◌, Bool, true, false, cond, leb, ◌&&◌, List, [], ◌∷◌, ◌++◌, Option, Some, None, option_and_then, refl, sym, ap, ◌∙◌, ◌⊎◌, ⊎_elim, inl, inr, arith}
use Rattle.std.proofs.lemmas.Bool.{and_parts, leb-true, le-leb, cases_lt}
use Rattle.std.proofs.lemmas.Fmt.{decimal_digit, decimal_step}
use Rattle.std.specs.Fmt.{decimal}
use Rattle.asset_names.specs.Reading.{digit_of, up_to_64, marked_number}

-- ---- one digit

digit_of-glyph : (least n : ℕ) → least ≤ n → n < 10 → digit_of least (48 + n) ≡ Some n
digit_of-glyph least n low high =
    let from : leb (48 + least) (48 + n) ≡ true = le-leb _ _ (omega arith) in
    let to : leb (48 + n) 57 ≡ true = le-leb _ _ (omega arith) in
    let value : 48 + n - 48 ≡ n = omega arith in
    rw (from, to, value)

digit_by : (least byte n : ℕ) (passes : Bool) → (leb (48 + least) byte && leb byte 57) ≡ passes → cond passes (Some (byte - 48)) None ≡ Some n → (byte ≡ 48 + n) × (least ≤ n) × (n < 10)
digit_by least byte n true e is =
    let parts = and_parts (leb (48 + least) byte) (leb byte 57) e in
    let from = leb-true _ _ parts.0 in
    let to = leb-true _ _ parts.1 in
    let value : byte - 48 ≡ n = cc in
    (omega arith, omega arith, omega arith)
digit_by least byte n false e is = cc

digit_of-some : (least byte n : ℕ) → digit_of least byte ≡ Some n → (byte ≡ 48 + n) × (least ≤ n) × (n < 10)
digit_of-some least byte n e = digit_by least byte n (leb (48 + least) byte && leb byte 57) refl e

-- ---- one or two digits

decimal_two : (n : ℕ) → 10 ≤ n → n ≤ 64 → decimal n ≡ (48 + n / 10) ∷ (48 + n % 10) ∷ []
decimal_two n low high =
    let small : n / 10 < 10 = omega arith in
    decimal_step n low (omega arith) ∙ ap (λ front. front ++ (48 + n % 10) ∷ []) (decimal_digit (n / 10) small)

up_to_64-some : (n m : ℕ) → up_to_64 n ≡ Some m → (n ≡ m) × (m ≤ 64)
up_to_64-some n m e = by_test (leb n 64) refl e
  where
    by_test : (passes : Bool) → leb n 64 ≡ passes → cond passes (Some n) None ≡ Some m → (n ≡ m) × (m ≤ 64)
    by_test true t e = let within = leb-true _ _ t in let same : n ≡ m = cc in (same, omega arith)
    by_test false t e = cc

pub number_of-decimal : (n : ℕ) → 1 ≤ n → n ≤ 64 → marked_number (decimal n) ≡ Some n
number_of-decimal n low high =
    ⊎_elim
    (λ (small : n < 10). ap marked_number (decimal_digit n small) ∙ digit_of-glyph 1 n low small)
    (λ (large : 10 ≤ n).
    let tens : digit_of 1 (48 + n / 10) ≡ Some (n / 10) = digit_of-glyph 1 (n / 10) (omega arith) (omega arith) in
    let ones : digit_of 0 (48 + n % 10) ≡ Some (n % 10) = digit_of-glyph 0 (n % 10) (omega arith) (omega arith) in
    let whole : 10 * (n / 10) + n % 10 ≡ n = omega arith in
    let within : leb n 64 ≡ true = le-leb _ _ high in
    ap marked_number (decimal_two n large high) ∙ rw (tens, ones, whole, within))
    (cases_lt n 10)

two_digits : (tens ones n : ℕ) (ten one : Option ℕ) → digit_of 1 tens ≡ ten → digit_of 0 ones ≡ one → option_and_then (λ (t : ℕ). option_and_then (λ (o : ℕ). up_to_64 (10 * t + o)) one) ten ≡ Some n → (1 ≤ n) × (n ≤ 64) × (tens ∷ ones ∷ [] ≡ decimal n)
two_digits tens ones n None one et eo e = cc
two_digits tens ones n (Some t) None et eo e = cc
two_digits tens ones n (Some t) (Some o) et eo e =
    let at = digit_of-some 1 tens t et in
    let ao = digit_of-some 0 ones o eo in
    let whole = up_to_64-some (10 * t + o) n e in
    let front : n / 10 ≡ t = omega arith in
    let back : n % 10 ≡ o = omega arith in
    let first : tens ≡ 48 + n / 10 = omega arith in
    let second : ones ≡ 48 + n % 10 = omega arith in
    let spelled : tens ∷ ones ∷ [] ≡ (48 + n / 10) ∷ (48 + n % 10) ∷ [] = cc in
    (omega arith, whole.1, spelled ∙ sym (decimal_two n (omega arith) whole.1))

pub number_of-some : (text : List ℕ) (n : ℕ) → marked_number text ≡ Some n → (1 ≤ n) × (n ≤ 64) × (text ≡ decimal n)
number_of-some [] n e = cc
number_of-some (ones ∷ []) n e =
    let at = digit_of-some 1 ones n e in
    let same : ones ∷ [] ≡ (48 + n) ∷ [] = ap (λ (byte : ℕ). byte ∷ []) at.0 in
    (at.1, omega arith, same ∙ sym (decimal_digit n at.2))
number_of-some (tens ∷ ones ∷ []) n e = two_digits tens ones n (digit_of 1 tens) (digit_of 0 ones) refl refl e
number_of-some (first ∷ second ∷ third ∷ rest) n e = cc

-- its digits are one digit or two
pub decimal_shape : (n : ℕ) → n ≤ 64 → ((first : ℕ) × (first < 10) × (decimal n ≡ (48 + first) ∷ [])) ⊎ ((first : ℕ) × (second : ℕ) × (first < 10) × (second < 10) × (decimal n ≡ (48 + first) ∷ (48 + second) ∷ []))
decimal_shape n high =
    ⊎_elim
    (λ (small : n < 10). inl (n, small, decimal_digit n small))
    (λ (large : 10 ≤ n). inr (n / 10, n % 10, omega arith, omega arith, decimal_two n large high))
    (cases_lt n 10)
