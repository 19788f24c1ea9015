-- Where a text's characters are parted, its bytes are.
use Rattle.std.proofs.Common.{ℕ, suc, ◌≡◌, ◌-◌, Bool, true, List, [], ◌∷◌, ◌++◌, length, take, refl, sym, ap, ◌∙◌, arith, length-append}
use Rattle.std.proofs.Math.Utf8.{scalars, encodes}
use Rattle.std.proofs.lemmas.Bool.{and_parts}
use Rattle.std.proofs.lemmas.Str.{chars-encodes, encodes-append, encodes-chars, scalars-chars, IsCharBoundary-at_seam}
use Rattle.std.specs.Str.{chars, IsUtf8, IsCharBoundary}
use Rattle.std.specs.Prelude.{slice_range, Option, Some, None, unwrap_or, cond}
use Rattle.es_tokens.specs.GapShape.{gap, first_gap}
use Rattle.es_tokens.specs.IsLongest.{LeavesLongest}
use Rattle.es_tokens.specs.Shape.{has_shape}
use Rattle.es_tokens.specs.Step.{passed, after_gap}
use Rattle.es_tokens.proofs.LongestLemmas.{longest-leaves}

pub scalars-front : (front rest : List ℕ) → scalars (front ++ rest) ≡ true → scalars front ≡ true
scalars-front [] rest h = refl
scalars-front (c ∷ front) rest h =
    let both = and_parts _ (scalars (front ++ rest)) h in rw (both.0, scalars-front front rest both.1) refl

pub scalars-rest : (front rest : List ℕ) → scalars (front ++ rest) ≡ true → scalars rest ≡ true
scalars-rest [] rest h = h
scalars-rest (c ∷ front) rest h = let both = and_parts _ (scalars (front ++ rest)) h in scalars-rest front rest both.1

pub front-taken : (front rest : List ℕ) → take (length (front ++ rest) - length rest) (front ++ rest) ≡ front
front-taken [] rest = rw (let e : length rest - length rest ≡ 0 = omega arith in e) refl
front-taken (c ∷ front) rest =
    let e : length (c ∷ (front ++ rest)) - length rest ≡ suc (length (front ++ rest) - length rest) = omega (arith, length-append front rest) in
    rw e (ap (λ more. c ∷ more) (front-taken front rest))

-- a rest that is left behind characters
pub record Seam (text left front : List ℕ) : Type 0 where
  pub bytes : text ≡ encodes front ++ left
  pub front_is : chars (encodes front) ≡ front

pub seam : (text left front : List ℕ) → IsUtf8 text → IsUtf8 left → chars text ≡ front ++ chars left → Seam text left front
seam text left front utf8 left_utf8 e = record {
  bytes = sym (encodes-chars text utf8) ∙ ap encodes e ∙ encodes-append front (chars left) ∙ ap (λ more. encodes front ++ more) (encodes-chars left left_utf8);
  front_is = chars-encodes front (scalars-front front (chars left) (sym (ap scalars e) ∙ scalars-chars text utf8));
}

leaves-parts : (passes : List ℕ → Bool) (text : List ℕ) (left : Option (List ℕ)) → LeavesLongest passes text left → (front : List ℕ) × (text ≡ front ++ unwrap_or left text)
leaves-parts passes text None h = ([], refl)
leaves-parts passes text (Some rest) h = (h.0, h.1.parts)

-- a gap stands in front of what it leaves
pub gap-parts : (first : Bool) (rest : List ℕ) → (front : List ℕ) × (rest ≡ front ++ after_gap first rest)
unfolding after_gap
gap-parts first rest = leaves-parts _ rest _ (longest-leaves (has_shape (cond first first_gap gap)) rest)

pub gap-boundary : (first : Bool) (rest left : List ℕ) → IsUtf8 rest → IsUtf8 left → chars left ≡ after_gap first (chars rest) →
    IsCharBoundary rest (length rest - length left)
gap-boundary first rest left utf8 left_utf8 e =
    let parts = gap-parts first (chars rest) in
    let s = seam rest left parts.0 utf8 left_utf8 (parts.1 ∙ ap (λ more. parts.0 ++ more) (sym e)) in
    let n : length (encodes parts.0) ≡ length rest - length left = omega (arith, ap length s.bytes, length-append (encodes parts.0) left) in
    rw (← n) (IsCharBoundary-at_seam rest (encodes parts.0) left s.bytes left_utf8)

pub gap-passed : (first : Bool) (rest left : List ℕ) → IsUtf8 rest → IsUtf8 left → chars left ≡ after_gap first (chars rest) →
    chars (slice_range rest 0 (length rest - length left)) ≡ passed (chars rest) (chars left)
gap-passed first rest left utf8 left_utf8 e =
    let parts = gap-parts first (chars rest) in
    let cut : chars rest ≡ parts.0 ++ chars left = parts.1 ∙ ap (λ more. parts.0 ++ more) (sym e) in
    let s = seam rest left parts.0 utf8 left_utf8 cut in
    let whole : length rest - length left - 0 ≡ length rest - length left = omega arith in
    ap (λ n. chars (take n rest)) whole ∙ ap (λ (text : List ℕ). chars (take (length text - length left) text)) s.bytes ∙ ap chars (front-taken (encodes parts.0) left) ∙ s.front_is
    ∙ sym (ap (λ (text : List ℕ). passed text (chars left)) cut ∙ front-taken parts.0 (chars left))
