-- A word is a number where the parts that are read lead to its end.
use Rattle.std.proofs.Common.{◌≡◌, ◌∙◌, ℕ, ◌≤◌, Bool, true, false, inl, inr, List, [], ◌∷◌, ◌++◌, Option, Some, None, refl, ap, sym, subst, arith, ◌==◌, ◌||◌}
use Rattle.std.proofs.lemmas.Bool.{eqb-true, cond-true, cond-false}
use Rattle.std.proofs.lemmas.Bool.Decides.{nat_tests}
use Rattle.std.specs.Char.{is_ascii_digit}
use Rattle.std.specs.List.{AllByRecursion}
use Rattle.json_order.specs.declared.mode.Part.{Part}
use Rattle.json_order.specs.declared.mode.Part.TheVariants as part
use Rattle.json_order.specs.Grammar.{IsDigit, IsDigits, IsMinus, IsInt, IsFrac, IsSigned, IsExp, IsNumber}
use Rattle.json_order.specs.inner.Modes.{first_part, first_digit, digit, or_else, after_integer, after_fraction, sign}
use Rattle.json_order.proofs.Rest.{ends}
use Rattle.json_order.proofs.Tests.{tested, either}

test_from_digit : (b : ℕ) → IsDigit b → is_ascii_digit b ≡ true
test_from_digit b h = grind (arith, nat_tests)

pub digit_from_test : (b : ℕ) → is_ascii_digit b ≡ true → IsDigit b
digit_from_test b h = grind (arith, nat_tests)

-- a number begins with this word
abbrev pub begins : List ℕ → Bool
begins [] = false
begins (b ∷ bs) = ends (first_part b) bs

-- the digit's part comes next
is_next : (b : ℕ) (p : Part) → IsDigit b → digit b p ≡ Some p
is_next b p h = cond-true (is_ascii_digit b) (Some p) None (test_from_digit b h)

go_on : (o : Option Part) (p : Part) (w : List ℕ) → o ≡ Some p → ends (Some p) w ≡ true → ends o w ≡ true
go_on o p w e h = subst (λ (x : Option Part). ends x w ≡ true) (sym e) h

exponent_ends : (ds : List ℕ) → AllByRecursion IsDigit ds → ends (Some part.Exponent) ds ≡ true
exponent_ends [] all = refl
exponent_ends (d ∷ ds) all = go_on _ part.Exponent ds (is_next d part.Exponent all.0) (exponent_ends ds all.1)

sign_ends : (ds : List ℕ) → IsDigits ds → ends (Some part.Sign) ds ≡ true
sign_ends [] h = absurd h
sign_ends (d ∷ ds) h = go_on _ part.Exponent ds (is_next d part.Exponent h.0) (exponent_ends ds h.1)

no_sign : (b : ℕ) → IsDigit b → ((b == 43) || (b == 45)) ≡ false
no_sign b h = grind (arith, nat_tests)

letter_ends : (s : List ℕ) → IsSigned s → ends (Some part.Letter) s ≡ true
letter_ends [] h = absurd h
letter_ends (b ∷ ds) (inl (inl e, h)) = subst (λ (c : ℕ). ends (Some part.Letter) (c ∷ ds) ≡ true) (sym e) (sign_ends ds h)
letter_ends (b ∷ ds) (inl (inr e, h)) = subst (λ (c : ℕ). ends (Some part.Letter) (c ∷ ds) ≡ true) (sym e) (sign_ends ds h)
letter_ends (b ∷ ds) (inr h) =
    let none : sign b ≡ None = cond-false ((b == 43) || (b == 45)) (Some part.Sign) None (no_sign b h.0) in
    go_on _ part.Exponent ds (ap (λ (o : Option Part). or_else o (digit b part.Exponent)) none ∙ is_next b part.Exponent h.0) (exponent_ends ds h.1)

exp_ends : (e : List ℕ) → IsExp e → (ends (Some part.Fraction) e ≡ true) × (ends (Some part.Integer) e ≡ true) × (ends (Some part.Zero) e ≡ true)
exp_ends [] h = (refl, refl, refl)
exp_ends (b ∷ s) (inl e, h) = subst (λ (c : ℕ). (ends (Some part.Fraction) (c ∷ s) ≡ true) × (ends (Some part.Integer) (c ∷ s) ≡ true) × (ends (Some part.Zero) (c ∷ s) ≡ true)) (sym e) (letter_ends s h, letter_ends s h, letter_ends s h)
exp_ends (b ∷ s) (inr e, h) = subst (λ (c : ℕ). (ends (Some part.Fraction) (c ∷ s) ≡ true) × (ends (Some part.Integer) (c ∷ s) ≡ true) × (ends (Some part.Zero) (c ∷ s) ≡ true)) (sym e) (letter_ends s h, letter_ends s h, letter_ends s h)

fraction_ends : (ds e : List ℕ) → AllByRecursion IsDigit ds → IsExp e → ends (Some part.Fraction) (ds ++ e) ≡ true
fraction_ends [] e all h = (exp_ends e h).0
fraction_ends (d ∷ ds) e all h =
    go_on _ part.Fraction (ds ++ e) (ap (λ (o : Option Part). or_else o (after_fraction d)) (is_next d part.Fraction all.0)) (fraction_ends ds e all.1 h)

point_ends : (ds e : List ℕ) → IsDigits ds → IsExp e → ends (Some part.Point) (ds ++ e) ≡ true
point_ends [] e all h = absurd all
point_ends (d ∷ ds) e all h = go_on _ part.Fraction (ds ++ e) (is_next d part.Fraction all.0) (fraction_ends ds e all.1 h)

frac_ends : (f e : List ℕ) → IsFrac f → IsExp e → (ends (Some part.Integer) (f ++ e) ≡ true) × (ends (Some part.Zero) (f ++ e) ≡ true)
frac_ends [] e is h = ((exp_ends e h).1, (exp_ends e h).2)
frac_ends (b ∷ ds) e is h = subst (λ (c : ℕ). (ends (Some part.Integer) (c ∷ (ds ++ e)) ≡ true) × (ends (Some part.Zero) (c ∷ (ds ++ e)) ≡ true)) (sym is.0) (point_ends ds e is.1 h, point_ends ds e is.1 h)

integer_ends : (ds f e : List ℕ) → AllByRecursion IsDigit ds → IsFrac f → IsExp e → ends (Some part.Integer) (ds ++ (f ++ e)) ≡ true
integer_ends [] f e all is h = (frac_ends f e is h).0
integer_ends (d ∷ ds) f e all is h =
    go_on _ part.Integer (ds ++ (f ++ e)) (ap (λ (o : Option Part). or_else o (after_integer d)) (is_next d part.Integer all.0)) (integer_ends ds f e all.1 is h)

no_zero : (b : ℕ) → 49 ≤ b → (b == 48) ≡ false
no_zero b h = grind (arith, nat_tests)

no_minus : (b : ℕ) → 48 ≤ b → (b == 45) ≡ false
no_minus b h = grind (arith, nat_tests)

int_ends : (i f e : List ℕ) → IsInt i → IsFrac f → IsExp e → (begins (i ++ (f ++ e)) ≡ true) × (ends (Some part.Minus) (i ++ (f ++ e)) ≡ true)
int_ends [] f e is_i is h = absurd is_i
int_ends (d ∷ ds) f e (inl (zero, none)) is h =
    subst (λ (ts : List ℕ). (begins (d ∷ (ts ++ (f ++ e))) ≡ true) × (ends (Some part.Minus) (d ∷ (ts ++ (f ++ e))) ≡ true)) (sym none)
    (subst (λ (c : ℕ). (begins (c ∷ (f ++ e)) ≡ true) × (ends (Some part.Minus) (c ∷ (f ++ e)) ≡ true)) (sym zero) ((frac_ends f e is h).1, (frac_ends f e is h).1))
int_ends (d ∷ ds) f e (inr (low, high, all)) is h =
    let low' : 48 ≤ d = omega arith in
    let first : first_digit d ≡ Some part.Integer = cond-false (d == 48) (Some part.Zero) (digit d part.Integer) (no_zero d low) ∙ is_next d part.Integer (low', high) in
    let rest : ends (Some part.Integer) (ds ++ (f ++ e)) ≡ true = integer_ends ds f e all is h in (
      go_on _ part.Integer (ds ++ (f ++ e)) (cond-false (d == 45) (Some part.Minus) (first_digit d) (no_minus d low') ∙ first) rest,
      go_on _ part.Integer (ds ++ (f ++ e)) first rest,
    )

pub number_begins : (w : List ℕ) → IsNumber w → begins w ≡ true
number_begins w n = subst (λ (v : List ℕ). begins v ≡ true) (sym n.joined) (go n.minus n.is_minus)
  where
    go : (m : List ℕ) → IsMinus m → begins (m ++ (n.int ++ (n.frac ++ n.exp))) ≡ true
    go m (inl e) = rw e (int_ends n.int n.frac n.exp n.is_int n.is_frac n.is_exp).0
    go m (inr e) = rw e (int_ends n.int n.frac n.exp n.is_int n.is_frac n.is_exp).1

-- the other way: what the parts say of a word that they end
exponent_digits : (w : List ℕ) → ends (Some part.Exponent) w ≡ true → AllByRecursion IsDigit w
exponent_digits [] h = tt
exponent_digits (b ∷ w) h = elim (tested (λ (o : Option Part). ends o w ≡ true) (is_ascii_digit b) (Some part.Exponent) None h) [
  | inl g ↦ (digit_from_test b g.0, exponent_digits w g.1)
  | inr g ↦ cc
]

digits_from_sign : (w : List ℕ) → ends (Some part.Sign) w ≡ true → IsDigits w
digits_from_sign [] h = cc
digits_from_sign (b ∷ w) h = elim (tested (λ (o : Option Part). ends o w ≡ true) (is_ascii_digit b) (Some part.Exponent) None h) [
  | inl g ↦ (digit_from_test b g.0, exponent_digits w g.1)
  | inr g ↦ cc
]

signed_from_letter : (w : List ℕ) → ends (Some part.Letter) w ≡ true → IsSigned w
signed_from_letter [] h = cc
signed_from_letter (b ∷ w) h =
    elim (tested (λ (o : Option Part). ends (or_else o (digit b part.Exponent)) w ≡ true) ((b == 43) || (b == 45)) (Some part.Sign) None h) [
      | inl g ↦ inl (elim (either (b == 43) (b == 45) g.0) [ inl k ↦ inl (eqb-true b 43 k) | inr k ↦ inr (eqb-true b 45 k) ], digits_from_sign w g.1)
      | inr g ↦ inr (elim (tested (λ (o : Option Part). ends o w ≡ true) (is_ascii_digit b) (Some part.Exponent) None g.1) [
        | inl k ↦ (digit_from_test b k.0, exponent_digits w k.1)
        | inr k ↦ cc
      ])
    ]

exp_from_test : (b : ℕ) (w : List ℕ) → ends (after_fraction b) w ≡ true → IsExp (b ∷ w)
exp_from_test b w h = elim (tested (λ (o : Option Part). ends o w ≡ true) ((b == 101) || (b == 69)) (Some part.Letter) None h) [
  | inl g ↦ (elim (either (b == 101) (b == 69) g.0) [ inl k ↦ inl (eqb-true b 101 k) | inr k ↦ inr (eqb-true b 69 k) ], signed_from_letter w g.1)
  | inr g ↦ cc
]

-- digits, and what stands behind them
record Split (Is : List ℕ → Type 0) (w : List ℕ) : Type 0 where
  ds : List ℕ
  e : List ℕ
  joined : w ≡ ds ++ e
  digits : AllByRecursion IsDigit ds
  is : Is e

more_digits : (Is : List ℕ → Type 0) (b : ℕ) (w : List ℕ) → IsDigit b → Split Is w → Split Is (b ∷ w)
more_digits Is b w h k = record { ds = b ∷ k.ds; e = k.e; joined = ap (λ (v : List ℕ). b ∷ v) k.joined; digits = (h, k.digits); is = k.is }

fraction_split : (w : List ℕ) → ends (Some part.Fraction) w ≡ true → Split IsExp w
fraction_split [] h = record { ds = []; e = []; joined = refl; digits = tt; is = tt }
fraction_split (b ∷ w) h =
    elim (tested (λ (o : Option Part). ends (or_else o (after_fraction b)) w ≡ true) (is_ascii_digit b) (Some part.Fraction) None h) [
      | inl g ↦ more_digits IsExp b w (digit_from_test b g.0) (fraction_split w g.1)
      | inr g ↦ record { ds = []; e = b ∷ w; joined = refl; digits = tt; is = exp_from_test b w g.1 }
    ]

-- a fraction and an exponent, either of which may be nothing
FracExp : List ℕ → Type 0
FracExp w = (f : List ℕ) × (e : List ℕ) × (w ≡ f ++ e) × IsFrac f × IsExp e

frac_from_point : (w : List ℕ) → ends (Some part.Point) w ≡ true → FracExp (46 ∷ w)
unfolding FracExp
frac_from_point [] h = cc
frac_from_point (b ∷ w) h = elim (tested (λ (o : Option Part). ends o w ≡ true) (is_ascii_digit b) (Some part.Fraction) None h) [
  | inl g ↦ let k : Split IsExp w = fraction_split w g.1 in
      (46 ∷ (b ∷ k.ds), k.e, ap (λ (v : List ℕ). 46 ∷ (b ∷ v)) k.joined, (refl, (digit_from_test b g.0, k.digits)), k.is)
  | inr g ↦ cc
]

frac_from_test : (b : ℕ) (w : List ℕ) → ends (after_integer b) w ≡ true → FracExp (b ∷ w)
unfolding FracExp
frac_from_test b w h = elim (tested (λ (o : Option Part). ends o w ≡ true) (b == 46) (Some part.Point) (after_fraction b) h) [
  | inl g ↦ subst (λ (c : ℕ). FracExp (c ∷ w)) (sym (eqb-true b 46 g.0)) (frac_from_point w g.1)
  | inr g ↦ ([], b ∷ w, refl, tt, exp_from_test b w g.1)
]

zero_split : (w : List ℕ) → ends (Some part.Zero) w ≡ true → FracExp w
unfolding FracExp
zero_split [] h = ([], [], refl, tt, tt)
zero_split (b ∷ w) h = frac_from_test b w h

integer_split : (w : List ℕ) → ends (Some part.Integer) w ≡ true → Split FracExp w
unfolding FracExp
integer_split [] h = record { ds = []; e = []; joined = refl; digits = tt; is = ([], [], refl, tt, tt) }
integer_split (b ∷ w) h =
    elim (tested (λ (o : Option Part). ends (or_else o (after_integer b)) w ≡ true) (is_ascii_digit b) (Some part.Integer) None h) [
      | inl g ↦ more_digits FracExp b w (digit_from_test b g.0) (integer_split w g.1)
      | inr g ↦ record { ds = []; e = b ∷ w; joined = refl; digits = tt; is = frac_from_test b w g.1 }
    ]

no_zero_low : (b : ℕ) → (b == 48) ≡ false → 48 ≤ b → 49 ≤ b
no_zero_low b e h = grind (arith, nat_tests)

int_number : (m : List ℕ) → IsMinus m → (b : ℕ) (w : List ℕ) → ends (first_digit b) w ≡ true → IsNumber (m ++ (b ∷ w))
unfolding FracExp
int_number m is_m b w h = elim (tested (λ (o : Option Part). ends o w ≡ true) (b == 48) (Some part.Zero) (digit b part.Integer) h) [
  | inl g ↦ let k : FracExp w = zero_split w g.1 in
      record { minus = m; int = b ∷ []; frac = k.0; exp = k.1; joined = ap (λ (v : List ℕ). m ++ (b ∷ v)) k.2; is_minus = is_m; is_int = inl (eqb-true b 48 g.0, refl); is_frac = k.3; is_exp = k.4 }
  | inr g ↦ elim (tested (λ (o : Option Part). ends o w ≡ true) (is_ascii_digit b) (Some part.Integer) None g.1) [
    | inl k ↦ let s : Split FracExp w = integer_split w k.1 in
        let d : IsDigit b = digit_from_test b k.0 in
        record {
          minus = m;
          int = b ∷ s.ds;
          frac = s.is.0;
          exp = s.is.1;
          joined = ap (λ (v : List ℕ). m ++ (b ∷ v)) (s.joined ∙ ap (λ (v : List ℕ). s.ds ++ v) s.is.2);
          is_minus = is_m;
          is_int = inr (no_zero_low b g.0 d.0, d.1, s.digits);
          is_frac = s.is.3;
          is_exp = s.is.4;
        }
    | inr k ↦ cc
  ]
]

minus_number : (w : List ℕ) → ends (Some part.Minus) w ≡ true → IsNumber (45 ∷ w)
minus_number [] h = cc
minus_number (b ∷ w) h = int_number (45 ∷ []) (inr refl) b w h

pub number_from_begins : (w : List ℕ) → begins w ≡ true → IsNumber w
number_from_begins [] h = cc
number_from_begins (b ∷ w) h = elim (tested (λ (o : Option Part). ends o w ≡ true) (b == 45) (Some part.Minus) (first_digit b) h) [
  | inl g ↦ subst (λ (c : ℕ). IsNumber (c ∷ w)) (sym (eqb-true b 45 g.0)) (minus_number w g.1)
  | inr g ↦ int_number [] (inl refl) b w g.1
]
