-- The parts of what a step reads: a gap, a token's characters, and what is left.
use Rattle.std.proofs.Common.{ℕ, ◌≡◌, ◌<◌, Bool, true, false, cond, inl, inr, List, [], ◌∷◌, ◌++◌, Option, Some, None, length, refl, sym, ap, subst, ◌∙◌, arith, append-nil}
use Rattle.std.specs.Prelude.{unwrap_or}
use Rattle.es_tokens.specs.Characters.{holds_terminator}
use Rattle.es_tokens.specs.ClassShape.{class_shape}
use Rattle.es_tokens.specs.Family.{shape_of, family_of}
use Rattle.es_tokens.specs.GapShape.{gap, first_gap}
use Rattle.es_tokens.specs.IsLongest.{IsLongest, LeavesLongest}
use Rattle.es_tokens.specs.Language.{HasShape}
use Rattle.es_tokens.specs.Longest.{after_longest}
use Rattle.es_tokens.specs.Misplaced.{closes}
use Rattle.es_tokens.specs.Shape.{Shape, takes_empty, has_shape}
use Rattle.es_tokens.specs.Step.{ends, token, place, passed, after_gap, token_at, token_step, step_behind, step}
use Rattle.es_tokens.proofs.FamilyLemmas.{Fits, family-fits}
use Rattle.es_tokens.proofs.LanguageLemmas.{shape-means}
use Rattle.es_tokens.proofs.LongestLemmas.{longest-no_text, longest-leaves}
use Rattle.es_tokens.proofs.StepLemmas.{family-takes, placed-left, placed-none, end-no_token, token-no_end}
use Rattle.es_tokens.proofs.TextLemmas.{front-taken}
use Rattle.es_tokens.specs.declared.family.Family.{Family}
use Rattle.es_tokens.specs.declared.role.Bracket.TheVariants.{Template}
use Rattle.es_tokens.specs.declared.context.Opened.{Opened}
use Rattle.es_tokens.specs.declared.context.Context.{Context}
use Rattle.es_tokens.specs.declared.token.LexToken.{LexToken}

-- a token's characters, and what is left behind them
record IsFront (text : List ℕ) (depth : ℕ) (gap_chars begun : List ℕ) (found : LexToken) (rest : List ℕ) : Type 0 where
  front : List ℕ
  parts : begun ≡ front ++ rest
  some : 0 < length front
  start : found.span.start ≡ place text begun
  end : found.span.end ≡ place text rest
  new_line : found.new_line ≡ holds_terminator gap_chars
  depth_is : found.depth ≡ depth
  longest : IsLongest (has_shape (class_shape found.class begun)) begun front rest

not-empty : (shape : Shape) (front : List ℕ) → takes_empty shape ≡ false → has_shape shape front ≡ true → 0 < length front
not-empty shape [] none all = cc
not-empty shape (c ∷ front) none all = omega arith

by-class : (shape next : Shape) (begun front rest : List ℕ) → shape ≡ next → IsLongest (has_shape shape) begun front rest → IsLongest (has_shape next) begun front rest
by-class shape next begun front rest e h = subst (λ s. IsLongest (has_shape s) begun front rest) e h

front-of : (text : List ℕ) (depth : ℕ) (gap_chars begun : List ℕ) (f : Family) (found : LexToken) (rest : List ℕ) →
    after_longest (has_shape (shape_of f)) begun ≡ Some rest → Fits begun f → token_at text f gap_chars (place text begun) (place text rest) depth ≡ found →
    IsFront text depth gap_chars begun found rest
front-of text depth gap_chars begun f found rest left fits e = by_fits fits
  where
    leaves : LeavesLongest (has_shape (shape_of f)) begun (Some rest)
    leaves = subst (LeavesLongest (has_shape (shape_of f)) begun) left (longest-leaves (has_shape (shape_of f)) begun)

    by_fits : Fits begun f → IsFront text depth gap_chars begun found rest
    by_fits (inl comment) = let none = longest-no_text begun in let some = ap (λ (g : Family). after_longest (has_shape (shape_of g)) begun) comment in cc
    by_fits (inr shapes) = record {
      front = leaves.0;
      parts = leaves.1.parts;
      some = not-empty (shape_of f) leaves.0 (family-takes f) leaves.1.holds;
      start = sym (ap (λ (t : LexToken). t.span.start) e);
      end = sym (ap (λ (t : LexToken). t.span.end) e);
      new_line = sym (ap (λ (t : LexToken). t.new_line) e);
      depth_is = sym (ap (λ (t : LexToken). t.depth) e);
      longest = by-class (shape_of f) _ begun leaves.0 rest (shapes _ ∙ ap (λ (t : LexToken). class_shape t.class begun) e) leaves.1;
    }

front-token : (most : ℕ) (text : List ℕ) (brackets : List Opened) (f : Family) (gap_chars begun : List ℕ) (o : Option (List ℕ)) (found : LexToken) (rest : List ℕ) →
    after_longest (has_shape (shape_of f)) begun ≡ o → Fits begun f → token_step most text brackets f gap_chars begun o ≡ token found rest →
    IsFront text (length brackets) gap_chars begun found rest
front-token most text brackets f gap_chars begun None found rest left fits e = cc
front-token most text brackets f gap_chars begun (Some r) found rest left fits e =
    let same = placed-left _ found r rest _ e in
    let both = placed-none _ found r rest _ e in
    front-of text (length brackets) gap_chars begun f found rest (left ∙ ap Some same) fits (ap (λ more. token_at text f gap_chars (place text begun) (place text more) (length brackets)) (sym same) ∙ both.1)

front-behind : (most : ℕ) (text : List ℕ) (context : Context) (from begun : List ℕ) (found : LexToken) (rest : List ℕ) →
    step_behind most text context from begun ≡ token found rest → IsFront text (length context.brackets) (passed from begun) begun found rest
front-behind most text context from [] found rest e = absurd (end-no_token _ _ found rest e)
front-behind most text context from (c ∷ more) found rest e =
    front-token most text context.brackets (family_of context.division (closes Template context.brackets) c more) (passed from (c ∷ more)) (c ∷ more) _ found rest refl
    (family-fits context.division (closes Template context.brackets) c more) e

-- a gap, and what it leaves
abbrev pub gap_at : Bool → Shape
gap_at first = cond first first_gap gap

record IsSplit (first : Bool) (left begun : List ℕ) : Type 0 where
  front : List ℕ
  parts : left ≡ front ++ begun
  is_gap : HasShape (gap_at first) front
  longest : IsLongest (has_shape (gap_at first)) left front begun

gap-takes : (first : Bool) → has_shape (gap_at first) [] ≡ true
gap-takes true = refl
gap-takes false = refl

split-by : (first : Bool) (left : List ℕ) (o : Option (List ℕ)) → LeavesLongest (has_shape (gap_at first)) left o → IsSplit first left (unwrap_or o left)
split-by first left None h = let takes = gap-takes first in let none = h [] left refl in absurd (cc)
split-by first left (Some rest) h = record { front = h.0; parts = h.1.parts; is_gap = (shape-means (gap_at first) h.0).0 h.1.holds; longest = h.1 }

split-gap : (first : Bool) (left : List ℕ) → IsSplit first left (after_gap first left)
unfolding after_gap
split-gap first left = split-by first left _ (longest-leaves (has_shape (gap_at first)) left)

-- what a step that finds a token reads
pub record IsRead (text : List ℕ) (context : Context) (left : List ℕ) (found : LexToken) (rest : List ℕ) : Type 0 where
  pub gap_chars : List ℕ
  pub front : List ℕ
  pub parts : left ≡ gap_chars ++ (front ++ rest)
  pub is_gap : HasShape (gap_at context.first) gap_chars
  pub longest_gap : IsLongest (has_shape (gap_at context.first)) left gap_chars (front ++ rest)
  pub some : 0 < length front
  pub start : found.span.start ≡ place text (front ++ rest)
  pub end : found.span.end ≡ place text rest
  pub new_line : found.new_line ≡ holds_terminator gap_chars
  pub depth_is : found.depth ≡ length context.brackets
  pub longest : IsLongest (has_shape (class_shape found.class (front ++ rest))) (front ++ rest) front rest

read-by : (text : List ℕ) (context : Context) (left begun : List ℕ) (found : LexToken) (rest : List ℕ) → (s : IsSplit context.first left begun) →
    (f : IsFront text (length context.brackets) (passed left begun) begun found rest) → IsRead text context left found rest
read-by text context left begun found rest s f =
    let gap_is : passed left begun ≡ s.front = ap (λ more. passed more begun) s.parts ∙ front-taken s.front begun in
    record {
      gap_chars = s.front;
      front = f.front;
      parts = s.parts ∙ ap (λ more. s.front ++ more) f.parts;
      is_gap = s.is_gap;
      longest_gap = subst (IsLongest (has_shape (gap_at context.first)) left s.front) f.parts s.longest;
      some = f.some;
      start = f.start ∙ ap (place text) f.parts;
      end = f.end;
      new_line = f.new_line ∙ ap holds_terminator gap_is;
      depth_is = f.depth_is;
      longest = subst (λ b. IsLongest (has_shape (class_shape found.class b)) b f.front rest) f.parts f.longest;
    }

pub step-reads : (most : ℕ) (text : List ℕ) (context : Context) (left : List ℕ) (found : LexToken) (rest : List ℕ) →
    step most text context left ≡ token found rest → IsRead text context left found rest
unfolding step
step-reads most text context left found rest e =
    read-by text context left (after_gap context.first left) found rest (split-gap context.first left) (front-behind most text context left (after_gap context.first left) found rest e)

-- where the text ends only gap is left
end-gap : (most : ℕ) (text : List ℕ) (context : Context) (from begun : List ℕ) → step_behind most text context from begun ≡ ends → begun ≡ []
end-gap most text context from [] e = refl
end-gap most text context from (c ∷ more) e = absurd (token-no_end most text context.brackets _ (passed from (c ∷ more)) (c ∷ more) _ e)

pub step-ends : (most : ℕ) (text : List ℕ) (context : Context) (left : List ℕ) → step most text context left ≡ ends → HasShape (gap_at context.first) left
unfolding step
step-ends most text context left e =
    let s = split-gap context.first left in
    let none = end-gap most text context left (after_gap context.first left) e in
    let whole : s.front ≡ left = sym (s.parts ∙ ap (λ more. s.front ++ more) none ∙ append-nil s.front) in
    subst (HasShape (gap_at context.first)) whole s.is_gap
