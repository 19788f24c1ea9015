-- A gap at the start of a text takes the whole line of a `#!`.
use Rattle.std.proofs.Common.{ℕ, ◌≡◌, ◌<◌, Bool, true, false, List, [], ◌∷◌, ◌++◌, length, refl, sym, ap, ◌∙◌, arith, append_assoc, length-append}
use Rattle.std.specs.Prelude.{◌||◌}
use Rattle.es_tokens.specs.Characters.{holds_terminator, is_blank, is_terminator, is_white}
use Rattle.es_tokens.specs.GapShape.{first_gap, hashbang_rest}
use Rattle.es_tokens.specs.IsLongest.{IsLongest}
use Rattle.es_tokens.specs.Shape.{after_first, has_shape}

-- where the first terminator stands
pub record EndsIn (cs : List ℕ) : Type 0 where
  pub line : List ℕ
  pub terminator : ℕ
  pub more : List ℕ
  pub parts : cs ≡ line ++ terminator ∷ more
  pub is_end : is_terminator terminator ≡ true

pub ends-in : (cs : List ℕ) → holds_terminator cs ≡ true → EndsIn cs
ends-in [] h = cc
ends-in (c ∷ cs) h = by (is_terminator c) (ends-in cs) refl h
  where
    by : (test : Bool) → (holds_terminator cs ≡ true → EndsIn cs) → is_terminator c ≡ test → (test || holds_terminator cs) ≡ true → EndsIn (c ∷ cs)
    by true later is h = record { line = []; terminator = c; more = cs; parts = refl; is_end = is }
    by false later is h =
        let e : EndsIn cs = later h in
        record { line = c ∷ e.line; terminator = e.terminator; more = e.more; parts = ap (λ some. c ∷ some) e.parts; is_end = e.is_end }

goes-on : (c : ℕ) → is_terminator c ≡ false → after_first hashbang_rest c ≡ hashbang_rest
goes-on c is = rw is refl

-- the characters of a line, and one more
line-taken : (cs : List ℕ) (last : ℕ) → holds_terminator cs ≡ false → has_shape hashbang_rest (cs ++ last ∷ []) ≡ true
line-taken [] last h = by (is_terminator last) refl
  where
    by : (test : Bool) → is_terminator last ≡ test → has_shape hashbang_rest (last ∷ []) ≡ true
    by true is = rw is refl
    by false is = rw is refl
line-taken (c ∷ cs) last h = by (is_terminator c) (line-taken cs last) refl h
  where
    by : (test : Bool) → (holds_terminator cs ≡ false → has_shape hashbang_rest (cs ++ last ∷ []) ≡ true) → is_terminator c ≡ test
        → (test || holds_terminator cs) ≡ false → has_shape hashbang_rest (c ∷ (cs ++ last ∷ [])) ≡ true
    by true later is h = cc
    by false later is h = ap (λ some. has_shape some (cs ++ last ∷ [])) (goes-on c is) ∙ later h

-- a `#!` and what may follow it
begins-gap : (cs : List ℕ) → has_shape first_gap (0x23 ∷ 0x21 ∷ cs) ≡ has_shape hashbang_rest cs
unfolding is_blank is_white is_terminator
begins-gap cs = refl

none-before : (one two : Bool) (rest : Bool) → (one || (two || rest)) ≡ false → rest ≡ false
none-before true two rest h = cc
none-before false true rest h = cc
none-before false false rest h = h

pub line-ends : (gap_chars front rest more : List ℕ) → 0 < length front → gap_chars ++ (front ++ rest) ≡ 0x23 ∷ 0x21 ∷ more →
    IsLongest (has_shape first_gap) (gap_chars ++ (front ++ rest)) gap_chars (front ++ rest) → holds_terminator gap_chars ≡ true
line-ends gap_chars [] rest more some begins longest = absurd (omega arith)
line-ends [] (c ∷ front) rest more some begins longest =
    let refused : has_shape first_gap (0x23 ∷ 0x21 ∷ []) ≡ false = longest.longest (0x23 ∷ 0x21 ∷ []) more begins (omega arith) in
    let taken = begins-gap [] in absurd (cc)
line-ends (x ∷ []) (c ∷ front) rest more some begins longest =
    let refused : has_shape first_gap (0x23 ∷ 0x21 ∷ []) ≡ false = longest.longest (0x23 ∷ 0x21 ∷ []) more begins (omega arith) in
    let taken = begins-gap [] in absurd (cc)
line-ends (x ∷ y ∷ cs) (c ∷ front) rest more some begins longest = by (holds_terminator (x ∷ y ∷ cs)) refl
  where
    by : (test : Bool) → holds_terminator (x ∷ y ∷ cs) ≡ test → holds_terminator (x ∷ y ∷ cs) ≡ true
    by true is = is
    by false is =
        let x_is : x ≡ 0x23 = cc in
        let y_is : y ≡ 0x21 = cc in
        let longer : length (x ∷ y ∷ cs) < length (x ∷ y ∷ (cs ++ c ∷ [])) = omega (arith, length-append cs (c ∷ [])) in
        let refused = longest.longest (x ∷ y ∷ (cs ++ c ∷ [])) (front ++ rest) (ap (λ (some : List ℕ). x ∷ y ∷ some) (sym (append_assoc cs (c ∷ []) (front ++ rest)))) longer in
        let taken : has_shape first_gap (x ∷ y ∷ (cs ++ c ∷ [])) ≡ true =
        rw (x_is, y_is) (begins-gap (cs ++ c ∷ []) ∙ line-taken cs c (none-before (is_terminator x) (is_terminator y) (holds_terminator cs) is)) in
        absurd (cc)
