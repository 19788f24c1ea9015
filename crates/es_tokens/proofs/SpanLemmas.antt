-- Where tokens stand in a text.
use Rattle.std.proofs.Common.{ℕ, zero, suc, ◌≡◌, ◌+◌, ◌<◌, ◌≤◌, Bool, true, false, List, [], ◌∷◌, ◌++◌, length, take, drop, refl, sym, ap, subst, ◌∙◌, arith, length-append, append_assoc, append-nil}
use Rattle.std.proofs.Math.Seq.{drop-append_seam}
use Rattle.std.proofs.Math.Utf8.{encode, encodes, scalars}
use Rattle.std.proofs.lemmas.Bool.{eq-eqb, ne_eqb}
use Rattle.std.proofs.lemmas.Str.{chars-encodes, cons_from_encodes, encodes-append, encodes-chars, scalars-chars, length-le-encodes}
use Rattle.std.specs.List.{AllByRecursion}
use Rattle.std.specs.Prelude.{◌==◌, ◌-◌, slice_range}
use Rattle.std.specs.Str.{chars, IsUtf8}
use Rattle.es_tokens.specs.AreTokens.{Leads, AreTokens}
use Rattle.es_tokens.specs.Characters.{holds_terminator}
use Rattle.es_tokens.specs.ClassShape.{class_shape, IsLongestOfClass}
use Rattle.es_tokens.specs.Context.{context_of, is_none}
use Rattle.es_tokens.specs.GapShape.{first_gap}
use Rattle.es_tokens.specs.IsLongest.{IsLongest}
use Rattle.es_tokens.specs.Language.{HasShape}
use Rattle.es_tokens.specs.Mated.{mate_by, mated_token, with_mate, mated}
use Rattle.es_tokens.specs.Shape.{has_shape}
use Rattle.es_tokens.specs.Spans.{EachBehind, AreInOrder, EndsLineBefore, chars_between, IsGap, GapsBetween, NewLinesByGaps}
use Rattle.es_tokens.specs.Step.{place}
use Rattle.es_tokens.specs.TokenRole.{role_in}
use Rattle.es_tokens.specs.TokenText.{token_bytes, IsQuoted}
use Rattle.es_tokens.proofs.HashbangLemmas.{line-ends, EndsIn, ends-in}
use Rattle.es_tokens.proofs.LawLemmas.{leads-count}
use Rattle.es_tokens.proofs.PartLemmas.{gap_at, IsRead, step-reads, step-ends}
use Rattle.es_tokens.proofs.QuotedLemmas.{string-quoted}
use Rattle.es_tokens.proofs.TextLemmas.{scalars-front, scalars-rest}
use Rattle.es_tokens.proofs.TokensLemmas.{length-mated}
use Rattle.es_tokens.specs.declared.token.Token.{Token}
use Rattle.es_tokens.specs.declared.token.TokenClass.{TokenClass}
use Rattle.es_tokens.specs.declared.token.TokenClass.TheVariants.{Str}
use Rattle.es_tokens.specs.declared.token.LexToken.{LexToken}
use Rattle.pack_util.specs.declared.number.Span.{Span}

taken-front : (front rest : List ℕ) → take (length front) (front ++ rest) ≡ front
taken-front [] rest = refl
taken-front (c ∷ front) rest = ap (λ more. c ∷ more) (taken-front front rest)

no-chars : (cs : List ℕ) → length cs ≤ 0 → cs ≡ []
no-chars [] h = refl
no-chars (c ∷ cs) h = absurd (omega arith)

-- characters of a text between others, and their bytes
record IsBetween (text before middle rest : List ℕ) : Type 0 where
  from_is : place text (middle ++ rest) ≡ length (encodes before)
  to_is : place text rest ≡ length (encodes before) + length (encodes middle)
  within : place text rest ≤ length text
  slice : slice_range text (place text (middle ++ rest)) (place text rest) ≡ encodes middle
  behind : drop (place text rest) text ≡ encodes rest
  middle_scalars : scalars middle ≡ true
  rest_scalars : scalars rest ≡ true

between : (text before middle rest : List ℕ) → IsUtf8 text → chars text ≡ before ++ (middle ++ rest) → IsBetween text before middle rest
between text before middle rest utf8 parts =
    let b = encodes before in
    let m = encodes middle in
    let r = encodes rest in
    let more : encodes (middle ++ rest) ≡ m ++ r = encodes-append middle rest in
    let bytes : text ≡ b ++ (m ++ r) = sym (encodes-chars text utf8) ∙ ap encodes parts ∙ encodes-append before (middle ++ rest) ∙ ap (λ x. b ++ x) more in
    let other : text ≡ (b ++ m) ++ r = bytes ∙ sym (append_assoc b m r) in
    let long = ap length bytes in
    let sums = length-append b (m ++ r) in
    let sum = length-append m r in
    let from_is : place text (middle ++ rest) ≡ length b = omega (arith, ap length more) in
    let to_is : place text rest ≡ length b + length m = omega arith in
    let width : length b + length m - length b ≡ length m = omega arith in
    let all : scalars (before ++ (middle ++ rest)) ≡ true = sym (ap scalars parts) ∙ scalars-chars text utf8 in
    let last = scalars-rest before (middle ++ rest) all in
    record {
      from_is = from_is;
      to_is = to_is;
      within = omega arith;
      slice = rw (from_is, to_is, width) (ap (λ (x : List ℕ). take (length m) (drop (length b) x)) bytes ∙ ap (take (length m)) (drop-append_seam b (m ++ r)) ∙ taken-front m r);
      behind = rw to_is (rw (sym (length-append b m)) (ap (λ (x : List ℕ). drop (length (b ++ m)) x) other ∙ drop-append_seam (b ++ m) r));
      middle_scalars = scalars-front middle rest last;
      rest_scalars = scalars-rest middle rest last;
    }

-- how a token stands behind a place
record LiesAt (text : List ℕ) (from : ℕ) (class : TokenClass) (span : Span) (new_line : Bool) : Type 0 where
  begins : from ≤ span.start
  some : span.start < span.end
  is_gap : IsGap text from span.start
  new_line_is : new_line ≡ holds_terminator (chars_between text from span.start)
  front : List ℕ
  bytes : slice_range text span.start span.end ≡ encodes front
  front_scalars : scalars front ≡ true
  longest : IsLongest (has_shape (class_shape class (chars (drop span.start text)))) (chars (drop span.start text)) front (chars (drop span.end text))
  line_ends : from ≡ 0 → (more : List ℕ) → chars text ≡ 0x23 ∷ 0x21 ∷ more → EndsLineBefore text span.start

abbrev Lies : List ℕ → ℕ → Token → Type 0
Lies text from token = LiesAt text from token.class token.span token.new_line

module _ (text before gap_chars front rest : List ℕ) (first : Bool) (found : LexToken) (utf8 : IsUtf8 text) (parts : chars text ≡ before ++ (gap_chars ++ (front ++ rest))) where
  gap_between : IsBetween text before gap_chars (front ++ rest)
  gap_between = between text before gap_chars (front ++ rest) utf8 parts

  front_between : IsBetween text (before ++ gap_chars) front rest
  front_between = between text (before ++ gap_chars) front rest utf8 (parts ∙ sym (append_assoc before gap_chars (front ++ rest)))

  -- where nothing stands before the gap, a terminator in it ends a line of the text
  line-before : length (encodes before) ≡ 0 → holds_terminator gap_chars ≡ true → EndsLineBefore text (place text (front ++ rest))
  line-before none holds =
      let empty : before ≡ [] = no-chars before (omega (arith, none, length-le-encodes before)) in
      let e : EndsIn gap_chars = ends-in gap_chars holds in
      let line = e.line ++ e.terminator ∷ [] in
      let gap_is : gap_chars ≡ line ++ e.more = e.parts ∙ sym (append_assoc e.line (e.terminator ∷ []) e.more) in
      let whole : chars text ≡ line ++ (e.more ++ (front ++ rest)) =
      parts ∙ ap (λ (some : List ℕ). some ++ (gap_chars ++ (front ++ rest))) empty ∙ ap (λ (some : List ℕ). some ++ (front ++ rest)) gap_is ∙ append_assoc line e.more (front ++ rest) in
      let long = ap length (ap encodes gap_is ∙ encodes-append line e.more) in
      record {
        line = e.line;
        terminator = e.terminator;
        rest = encodes (e.more ++ (front ++ rest));
        parts = sym (encodes-chars text utf8) ∙ ap encodes whole ∙ encodes-append line (e.more ++ (front ++ rest));
        is_end = e.is_end;
        before = omega (arith, gap_between.to_is, none, long, length-append (encodes line) (encodes e.more));
      }

  -- a gap at the start takes the line of a `#!`, and its terminator
  hashbang-line : (place text (gap_chars ++ (front ++ rest)) == 0) ≡ first → IsLongest (has_shape (gap_at first)) (gap_chars ++ (front ++ rest)) gap_chars (front ++ rest)
      → 0 < length front → place text (gap_chars ++ (front ++ rest)) ≡ 0 → (more : List ℕ) → chars text ≡ 0x23 ∷ 0x21 ∷ more → EndsLineBefore text (place text (front ++ rest))
  hashbang-line at_start longest some at_zero more begins =
      let none : length (encodes before) ≡ 0 = sym gap_between.from_is ∙ at_zero in
      let empty : before ≡ [] = no-chars before (omega (arith, none, length-le-encodes before)) in
      let is_first : first ≡ true = sym at_start ∙ eq-eqb (place text (gap_chars ++ (front ++ rest))) 0 at_zero in
      let taken : IsLongest (has_shape first_gap) (gap_chars ++ (front ++ rest)) gap_chars (front ++ rest) =
      subst (λ b. IsLongest (has_shape (gap_at b)) (gap_chars ++ (front ++ rest)) gap_chars (front ++ rest)) is_first longest in
      let whole : gap_chars ++ (front ++ rest) ≡ 0x23 ∷ 0x21 ∷ more = ap (λ (some : List ℕ). some ++ (gap_chars ++ (front ++ rest))) (sym empty) ∙ sym parts ∙ begins in
      line-before none (line-ends gap_chars front rest more some whole taken)

  lies-at : (place text (gap_chars ++ (front ++ rest)) == 0) ≡ first → HasShape (gap_at first) gap_chars
      → IsLongest (has_shape (gap_at first)) (gap_chars ++ (front ++ rest)) gap_chars (front ++ rest) → 0 < length front →
      found.span.start ≡ place text (front ++ rest) → found.span.end ≡ place text rest → found.new_line ≡ holds_terminator gap_chars →
      IsLongest (has_shape (class_shape found.class (front ++ rest))) (front ++ rest) front rest →
      LiesAt text (place text (gap_chars ++ (front ++ rest))) found.class found.span found.new_line
  lies-at at_start is_gap longest_gap some start end new_line longest =
      let g = gap_between in
      let f = front_between in
      let gap_slice : chars_between text (place text (gap_chars ++ (front ++ rest))) found.span.start ≡ gap_chars =
      ap (λ to. chars_between text (place text (gap_chars ++ (front ++ rest))) to) start ∙ ap chars g.slice ∙ chars-encodes gap_chars g.middle_scalars in
      let begun_is : chars (drop found.span.start text) ≡ front ++ rest = ap (λ to. chars (drop to text)) start ∙ ap chars g.behind ∙ chars-encodes (front ++ rest) g.rest_scalars in
      let rest_is : chars (drop found.span.end text) ≡ rest = ap (λ to. chars (drop to text)) end ∙ ap chars f.behind ∙ chars-encodes rest f.rest_scalars in
      record {
        begins = rw start (omega (arith, g.from_is, g.to_is));
        some = rw (start, end) (omega (arith, f.from_is, f.to_is, length-le-encodes front));
        is_gap = rw (at_start, gap_slice) is_gap;
        new_line_is = new_line ∙ sym (ap holds_terminator gap_slice);
        front = front;
        bytes = rw (start, end) f.slice;
        front_scalars = f.middle_scalars;
        longest = rw (begun_is, rest_is) longest;
        line_ends = rw start (hashbang-line at_start longest_gap some);
      }

  -- the token isn't at the start
  not-first : 0 < length front → (place text rest == 0) ≡ false
  not-first some = let f = front_between in ne_eqb (place text rest) 0 (λ e. omega (arith, f.to_is, length-le-encodes front))

-- lists of tokens, each behind the one before
each-mate : (text : List ℕ) (Last : ℕ → Type 0) (tokens : List Token) (number mate from : ℕ) → EachBehind (Lies text) Last from tokens → EachBehind (Lies text) Last from (with_mate tokens number mate)
each-mate text Last [] number mate from h = h
each-mate text Last (first ∷ tokens) zero mate from h = h
each-mate text Last (first ∷ tokens) (suc number) mate from h = (h.0, each-mate text Last tokens number mate first.span.end h.1)

each-append : (Meets : ℕ → Token → Type 0) (Last : ℕ → Type 0) (tokens : List Token) (at from : ℕ) (token : Token) →
    EachBehind Meets (λ end. end ≡ at) from tokens → Meets at token → Last token.span.end → EachBehind Meets Last from (tokens ++ token ∷ [])
each-append Meets Last [] at from token h meets last = (subst (λ place. Meets place token) (sym h) meets, last)
each-append Meets Last (first ∷ tokens) at from token h meets last = (h.0, each-append Meets Last tokens at first.span.end token h.1 meets last)

each-more : (Meets Also : ℕ → Token → Type 0) (Last Then : ℕ → Type 0) (tokens : List Token) (from : ℕ) → ((from : ℕ) (token : Token) → Meets from token → Also from token) →
    ((from : ℕ) → Last from → Then from) → EachBehind Meets Last from tokens → EachBehind Also Then from tokens
each-more Meets Also Last Then [] from also end h = end from h
each-more Meets Also Last Then (first ∷ tokens) from also end h = (also from first h.0, each-more Meets Also Last Then tokens first.span.end also end h.1)

each-all : (Meets : ℕ → Token → Type 0) (Last : ℕ → Type 0) (P : Token → Type 0) (tokens : List Token) (from : ℕ) → ((from : ℕ) (token : Token) → Meets from token → P token) →
    EachBehind Meets Last from tokens → AllByRecursion P tokens
each-all Meets Last P [] from so h = tt
each-all Meets Last P (first ∷ tokens) from so h = (so from first h.0, each-all Meets Last P tokens first.span.end so h.1)

-- the tokens so far, and the characters in front of what is left
record AreLaid (text : List ℕ) (before : List LexToken) (rest : List ℕ) : Type 0 where
  front : List ℕ
  parts : chars text ≡ front ++ rest
  at_start : (place text rest == 0) ≡ is_none before
  behind : EachBehind (Lies text) (λ end. end ≡ place text rest) 0 (mated text before)

no-place : (text : List ℕ) → IsUtf8 text → place text (chars text) ≡ 0
no-place text utf8 = omega (arith, ap length (encodes-chars text utf8))

laid-more : (text : List ℕ) (before : List LexToken) (found : LexToken) (left rest : List ℕ) → IsUtf8 text → AreLaid text before left → IsRead text (context_of text before) left found rest →
    AreLaid text (found ∷ before) rest
laid-more text before found left rest utf8 laid r =
    let parts : chars text ≡ laid.front ++ (r.gap_chars ++ (r.front ++ rest)) = laid.parts ∙ ap (λ more. laid.front ++ more) r.parts in
    let mate = mate_by (role_in text found) (length before) (context_of text before).brackets in
    let at_start : (place text (r.gap_chars ++ (r.front ++ rest)) == 0) ≡ is_none before = sym (ap (λ more. place text more == 0) r.parts) ∙ laid.at_start in
    let longest_gap = subst (λ more. IsLongest (has_shape (gap_at (is_none before))) more r.gap_chars (r.front ++ rest)) r.parts r.longest_gap in
    let lies = lies-at text laid.front r.gap_chars r.front rest (is_none before) found utf8 parts at_start r.is_gap longest_gap r.some r.start r.end r.new_line r.longest in
    record {
      front = (laid.front ++ r.gap_chars) ++ r.front;
      parts = parts ∙ sym (append_assoc laid.front r.gap_chars (r.front ++ rest)) ∙ sym (append_assoc (laid.front ++ r.gap_chars) r.front rest);
      at_start = not-first text laid.front r.gap_chars r.front rest (is_none before) found utf8 parts r.some;
      behind = each-append (Lies text) (λ end. end ≡ place text rest) (with_mate (mated text before) mate (length before)) (place text left) 0 (mated_token found mate)
          (each-mate text (λ end. end ≡ place text left) (mated text before) mate (length before) 0 laid.behind)
          (subst (λ more. LiesAt text (place text more) found.class found.span found.new_line) (sym r.parts) lies) r.end;
    }

laid : (most : ℕ) (text : List ℕ) (before : List LexToken) (rest : List ℕ) → IsUtf8 text → Leads most text before rest → AreLaid text before rest
laid most text [] rest utf8 leads =
    let none : place text rest ≡ 0 = ap (place text) leads ∙ no-place text utf8 in
    record { front = []; parts = sym leads; at_start = eq-eqb (place text rest) 0 none; behind = sym none }
laid most text (found ∷ before) rest utf8 leads =
    laid-more text before found leads.0 rest utf8 (laid most text before leads.0 utf8 leads.1) (step-reads most text (context_of text before) leads.0 found rest leads.2)

-- the laws
module _ (text : List ℕ) (tokens : List Token) (h : AreTokens text tokens) where
  found_laid : AreLaid text h.0 h.1.rest
  found_laid = laid 4096 text h.0 h.1.rest h.1.utf8 h.1.leads

  tokens-lie : EachBehind (Lies text) (λ end. end ≡ place text h.1.rest) 0 tokens
  tokens-lie = rw h.2 found_laid.behind

  last_gap : (from : ℕ) → from ≡ place text h.1.rest → IsGap text from (length text)
  last_gap from e =
      let rest = h.1.rest in
      let nil = append-nil rest in
      let at_end : place text [] ≡ length text = omega arith in
      let b = between text found_laid.front rest [] h.1.utf8 (found_laid.parts ∙ ap (λ more. found_laid.front ++ more) (sym nil)) in
      let slice : chars_between text (place text rest) (length text) ≡ rest =
      ap (chars_between text (place text rest)) (sym at_end) ∙ sym (ap (λ (more : List ℕ). chars_between text (place text more) (place text [])) nil) ∙ ap chars b.slice ∙ chars-encodes rest b.middle_scalars in
      rw (e, found_laid.at_start, slice) (step-ends 4096 text (context_of text h.0) rest h.1.last)

  pub in-order : AreInOrder text tokens
  in-order = each-more (Lies text) _ (λ end. end ≡ place text h.1.rest) _ tokens 0 (λ from token lies. (lies.begins, lies.some)) (λ from e. omega arith) tokens-lie

  pub gaps-between : GapsBetween text tokens
  gaps-between = each-more (Lies text) _ (λ end. end ≡ place text h.1.rest) _ tokens 0 (λ from token lies. lies.is_gap) last_gap tokens-lie

  pub new-lines : NewLinesByGaps text tokens
  new-lines = each-more (Lies text) _ (λ end. end ≡ place text h.1.rest) _ tokens 0 (λ from token lies. lies.new_line_is) (λ from e. tt) tokens-lie

  -- the first token stands at the start, and behind the line of a `#!`
  pub behind-hashbang : (more : List ℕ) (first : Token) (behind : List Token) → tokens ≡ first ∷ behind → text ≡ 0x23 ∷ 0x21 ∷ more → EndsLineBefore text first.span.start
  unfolding encode
  behind-hashbang more first behind e begins =
      let one : (es : List ℕ) × (chars text ≡ 0x23 ∷ es) × (encodes es ≡ 0x21 ∷ more) =
      cons_from_encodes (chars text) (0x21 ∷ more) 0x23 (encodes-chars text h.1.utf8 ∙ begins) in
      let two : (es : List ℕ) × (one.0 ≡ 0x21 ∷ es) × (encodes es ≡ more) = cons_from_encodes one.0 more 0x21 one.2 in
      let lie : EachBehind (Lies text) (λ end. end ≡ place text h.1.rest) 0 (first ∷ behind) = subst (EachBehind (Lies text) (λ end. end ≡ place text h.1.rest) 0) e tokens-lie in
      lie.0.line_ends refl two.0 (one.1 ∙ ap (λ some. 0x23 ∷ some) two.1)

  pub at-most : length tokens ≤ length text
  at-most =
      let count = leads-count 4096 text h.0 h.1.rest h.1.leads in
      omega (arith, ap length h.2, length-mated text h.0, length-le-encodes (chars text), ap length (encodes-chars text h.1.utf8))

  pub all-longest : AllByRecursion (IsLongestOfClass text) tokens
  all-longest = each-all (Lies text) _ (IsLongestOfClass text) tokens 0
      (λ from token lies. let front_is : chars (slice_range text token.span.start token.span.end) ≡ lies.front = ap chars lies.bytes ∙ chars-encodes lies.front lies.front_scalars in rw front_is lies.longest)
      tokens-lie

  pub all-utf8 : AllByRecursion (λ token. IsUtf8 (token_bytes text token)) tokens
  all-utf8 = each-all (Lies text) _ (λ token. IsUtf8 (token_bytes text token)) tokens 0 (λ from token lies. (lies.front, (lies.front_scalars, sym lies.bytes))) tokens-lie

  pub strings-quoted : AllByRecursion (λ token. token.class ≡ Str → IsQuoted (token_bytes text token)) tokens
  strings-quoted = each-all (Lies text) _ (λ token. token.class ≡ Str → IsQuoted (token_bytes text token)) tokens 0
      (λ from token lies is_string. string-quoted _ token.class (chars (drop token.span.start text)) lies.front is_string lies.bytes lies.front_scalars lies.longest.holds)
      tokens-lie
