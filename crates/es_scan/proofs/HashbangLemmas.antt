-- The edit of a `#!` line ends before the first token.
use Rattle.std.proofs.Common.{◌≡◌, ◌<◌, ◌≤◌, ◌+◌, ℕ, Bool, true, false, cond, List, [], ◌∷◌, ◌++◌, drop, length, length-append, refl, ap, ◌∙◌, arith, append_assoc, append-nil}
use Rattle.std.specs.Prelude.{◌||◌, ◌==◌, codes}
use Rattle.std.specs.Cmp.{unsigned_Decides}
use Rattle.std.proofs.Math.Utf8.{encode, encodes}
use Rattle.std.proofs.lemmas.Bool.Decides.{Decides-eqb}
use Rattle.std.proofs.lemmas.Slice.Eq.{starts_is}
use Rattle.std.proofs.lemmas.Str.{encodes-append}
use Rattle.es_tokens.specs.Characters.{is_terminator}
use Rattle.es_tokens.specs.Spans.{EndsLineBefore}
use Rattle.es_tokens.specs.declared.token.Token.{Token}
use Rattle.form_shapes.specs.Source.{start_at}
use Rattle.graph_types.specs.Whole.{LieInOrder}
use Rattle.graph_types.specs.declared.edit.Edit.{Edit}
use Rattle.magic_comments.specs.Comments.{begins, begins_terminator, line_from, line_length}
use Rattle.es_scan.specs.Edits.{fixed, hashbang_edits}

line-within : (count : ℕ) (bytes : List ℕ) → line_from count bytes ≤ count + length bytes
line-within count [] = omega arith
line-within count (byte ∷ bytes) = by (begins_terminator (byte ∷ bytes)) (line-within (count + 1) bytes)
  where
    by : (b : Bool) → line_from (count + 1) bytes ≤ count + 1 + length bytes → cond b count (line_from (count + 1) bytes) ≤ count + length (byte ∷ bytes)
    by true more = omega arith
    by false more = omega (arith, more)

-- a line ends where a terminator stands, or before
line-until : (front rest : List ℕ) (count : ℕ) → begins_terminator rest ≡ true → line_from count (front ++ rest) ≤ count + length front
line-until [] [] count ends = omega arith
line-until [] (byte ∷ rest) count ends = rw ends (omega arith)
line-until (byte ∷ front) rest count ends = by (begins_terminator (byte ∷ (front ++ rest))) (line-until front rest (count + 1) ends)
  where
    by : (b : Bool) → line_from (count + 1) (front ++ rest) ≤ count + 1 + length front → cond b count (line_from (count + 1) (front ++ rest)) ≤ count + length (byte ∷ front)
    by true more = omega arith
    by false more = omega (arith, more)

-- the bytes of a terminator
terminator-bytes : (t : ℕ) (rest : List ℕ) → is_terminator t ≡ true → begins_terminator (encode t ++ rest) ≡ true
unfolding is_terminator encode
terminator-bytes t rest h = by (t == 0x0a) (t == 0x0d) (t == 0x2028) (t == 0x2029) refl refl refl refl h
  where
    is : (c : ℕ) → (t == c) ≡ true → begins_terminator (encode c ++ rest) ≡ true → begins_terminator (encode t ++ rest) ≡ true
    is c e known = let same : t ≡ c = (Decides-eqb t c).0 e in rw same known

    by : (one two three four : Bool) → (t == 0x0a) ≡ one → (t == 0x0d) ≡ two → (t == 0x2028) ≡ three → (t == 0x2029) ≡ four
        → (one || two || three || four) ≡ true → begins_terminator (encode t ++ rest) ≡ true
    by true two three four a b c d h = is 0x0a a refl
    by false true three four a b c d h = is 0x0d b refl
    by false false true four a b c d h = is 0x2028 c refl
    by false false false true a b c d h = is 0x2029 d refl
    by false false false false a b c d h = cc

line-before : (text : List ℕ) (place : ℕ) → EndsLineBefore text place → line_length text ≤ place
line-before text place e =
    let bytes : encodes (e.line ++ e.terminator ∷ []) ≡ encodes e.line ++ encodes (e.terminator ∷ []) = encodes-append e.line (e.terminator ∷ []) in
    let last : encodes (e.terminator ∷ []) ≡ encode e.terminator = append-nil (encode e.terminator) in
    let whole : text ≡ encodes e.line ++ (encode e.terminator ++ e.rest) =
    e.parts ∙ ap (λ (some : List ℕ). some ++ e.rest) (bytes ∙ ap (λ (some : List ℕ). encodes e.line ++ some) last) ∙ append_assoc (encodes e.line) (encode e.terminator) e.rest in
    let until : line_length (encodes e.line ++ (encode e.terminator ++ e.rest)) ≤ 0 + length (encodes e.line) =
    line-until (encodes e.line) (encode e.terminator ++ e.rest) 0 (terminator-bytes e.terminator e.rest e.is_end) in
    omega (arith, ap line_length whole, until, e.before, ap length bytes, length-append (encodes e.line) (encodes (e.terminator ∷ [])))

-- where the edit ends that may stand before all tokens
pub record IsFirst (text : List ℕ) (tokens : List Token) (first : List Edit) : Type 0 where
  pub base : ℕ
  pub lie : LieInOrder 0 base first
  pub within : base ≤ length text
  pub before : 0 < length tokens → base ≤ start_at tokens 0

pub first-edits : (text : List ℕ) (tokens : List Token)
    → ((more : List ℕ) (token : Token) (behind : List Token) → tokens ≡ token ∷ behind → text ≡ codes "#!" ++ more → EndsLineBefore text token.span.start)
    → IsFirst text tokens (hashbang_edits text)
unfolding hashbang_edits
first-edits text tokens stands = by (begins text (codes "#!")) refl
  where
    starts : begins text (codes "#!") ≡ true → text ≡ codes "#!" ++ drop 2 text
    starts is = (starts_is unsigned_Decides text (codes "#!") (begins text (codes "#!")) refl).0 is

    before : (some : List Token) → tokens ≡ some → begins text (codes "#!") ≡ true → 0 < length some → line_length text ≤ start_at some 0
    before [] same is there = absurd (omega arith)
    before (token ∷ behind) same is there = line-before text token.span.start (stands (drop 2 text) token behind same (starts is))

    by : (b : Bool) → begins text (codes "#!") ≡ b → IsFirst text tokens (cond b (fixed (record { start = 0; end = line_length text }) (codes "") ∷ []) [])
    by false is = record { base = 0; lie = tt; within = omega arith; before = λ there. omega arith }
    by true is = record {
      base = line_length text;
      lie = (omega arith, omega arith, omega arith, tt);
      within = omega (arith, line-within 0 text);
      before = before tokens refl is;
    }
