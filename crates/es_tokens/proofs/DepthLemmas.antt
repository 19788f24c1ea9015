-- Depths count open brackets, and what a bracket and its mate enclose is deeper.
use Rattle.std.proofs.Common.{ℕ, zero, suc, ◌≡◌, ◌<◌, ◌≤◌, Bool, List, [], ◌∷◌, ◌++◌, Option, None, Some, inl, inr, length, refl, sym, ap, ◌∙◌, arith}
use Rattle.std.proofs.lemmas.Bool.{cases_eq, cases_lt}
use Rattle.std.specs.Option.{option_map}
use Rattle.std.specs.Prelude.{drop, slice_get}
use Rattle.es_tokens.specs.AreTokens.{Leads, AreTokens}
use Rattle.es_tokens.specs.Context.{context_of, open_after}
use Rattle.es_tokens.specs.Depths.{AreNested}
use Rattle.es_tokens.specs.Mated.{mate_by, mated_token, with_mate, mated}
use Rattle.es_tokens.specs.Mates.{played, plays, HasMate, AreMates}
use Rattle.es_tokens.specs.Misplaced.{misplaced, same_bracket}
use Rattle.es_tokens.specs.TokenRole.{role_in}
use Rattle.es_tokens.proofs.MateLemmas.{Roles, Pairing, Added, Closed, entry-parts, pairing, closer-told, same-brackets, fits, own-added, tokens-mates}
use Rattle.es_tokens.proofs.PartLemmas.{step-reads}
use Rattle.es_tokens.proofs.StepLemmas.{context-step, step-in_place}
use Rattle.es_tokens.proofs.TokensLemmas.{length-mated, length-with_mate}
use Rattle.es_tokens.specs.declared.context.Context.{Context}
use Rattle.es_tokens.specs.declared.context.Opened.{Opened}
use Rattle.es_tokens.specs.declared.role.Bracket.{Bracket}
use Rattle.es_tokens.specs.declared.role.Role.{Role}
use Rattle.es_tokens.specs.declared.role.Role.TheVariants.{Value, BlockWord, Control, For, Await, Word, Dot, Open, Close, Operator, Stop}
use Rattle.es_tokens.specs.declared.token.Token.{Token}
use Rattle.es_tokens.specs.declared.token.LexToken.{LexToken}
use Rattle.es_tokens.specs.declared.token.TokenKind.TheVariants.{Unmatched}

-- depths by the numbers of tokens
abbrev pub depths : List Token → ℕ → Option ℕ
depths tokens number = option_map (λ t. t.depth) (slice_get tokens number)

pub depths-mate : (tokens : List Token) (at mate number : ℕ) → depths (with_mate tokens at mate) number ≡ depths tokens number
depths-mate [] at mate number = refl
depths-mate (first ∷ tokens) zero mate zero = refl
depths-mate (first ∷ tokens) zero mate (suc number) = refl
depths-mate (first ∷ tokens) (suc at) mate zero = refl
depths-mate (first ∷ tokens) (suc at) mate (suc number) = depths-mate tokens at mate number

pub depths-added : (tokens : List Token) (last : Token) (number : ℕ) → (number ≡ length tokens → ⊥) → depths (tokens ++ last ∷ []) number ≡ depths tokens number
depths-added [] last zero n = absurd (n refl)
depths-added [] last (suc number) n = refl
depths-added (first ∷ tokens) last zero n = refl
depths-added (first ∷ tokens) last (suc number) n = depths-added tokens last number (λ e. n (ap suc e))

pub depths-last : (tokens : List Token) (last : Token) → depths (tokens ++ last ∷ []) (length tokens) ≡ Some last.depth
depths-last [] last = refl
depths-last (first ∷ tokens) last = depths-last tokens last

-- one more depth
record Deepened (deep more : ℕ → Option ℕ) (count depth : ℕ) : Type 0 where
  same : (number : ℕ) → (number ≡ count → ⊥) → more number ≡ deep number
  new : more count ≡ Some depth

deepened : (tokens : List Token) (found : LexToken) (at mate : ℕ) → Deepened (depths tokens) (depths (with_mate tokens at (length tokens) ++ mated_token found mate ∷ [])) (length tokens) found.depth
deepened tokens found at mate =
    let told = with_mate tokens at (length tokens) in
    let long : length told ≡ length tokens = length-with_mate tokens at (length tokens) in
    record {
      same = λ number n. depths-added told (mated_token found mate) number (λ e. n (e ∙ long)) ∙ depths-mate tokens at (length tokens) number;
      new = ap (depths (told ++ mated_token found mate ∷ [])) (sym long) ∙ depths-last told (mated_token found mate);
    }

-- between two places all is deeper than at the first, and the second is one deeper
record Deeper (deep : ℕ → Option ℕ) (from to : ℕ) : Type 0 where
  order : from < to
  depth : ℕ
  first : deep from ≡ Some depth
  last : deep to ≡ Some (suc depth)
  between : (at d : ℕ) → from < at → at < to → deep at ≡ Some d → depth < d

-- each open bracket stands as deep as there are brackets around it, and all behind it is deeper
abbrev Stacked : (ℕ → Option ℕ) → ℕ → List Opened → Type 0
Stacked deep count [] = Unit {0}
Stacked deep count (opened ∷ outer) =
    (opened.at < count) × (deep opened.at ≡ Some (length outer)) × ((at d : ℕ) → opened.at < at → at < count → deep at ≡ Some d → length outer < d) × Stacked deep count outer

record Nesting (all : Roles) (deep : ℕ → Option ℕ) (count : ℕ) (brackets : List Opened) : Type 0 where
  stacked : Stacked deep count brackets
  closed : (to from : ℕ) (bracket : Bracket) → all to ≡ Some (Close bracket, from) → (to < count) × Deeper deep from to

pub some-same : (x : Option ℕ) (a b : ℕ) → x ≡ Some a → x ≡ Some b → a ≡ b
some-same x a b e f = cc

stacked-kept : (deep more : ℕ → Option ℕ) (count depth : ℕ) (brackets : List Opened) → Deepened deep more count depth → length brackets ≤ depth → Stacked deep count brackets → Stacked more (suc count) brackets
stacked-kept deep more count depth [] d below h = tt
stacked-kept deep more count depth (opened ∷ outer) d below h =
    (omega (arith, h.0), d.same opened.at (λ e. omega (arith, h.0)) ∙ h.1, behind, stacked-kept deep more count depth outer d (omega arith) h.3)
  where
    behind : (at e : ℕ) → opened.at < at → at < suc count → more at ≡ Some e → length outer < e
    behind at e above within is =
        elim (cases_eq at count) [
          | inl here ↦ let same = some-same (more count) e depth (ap more (sym here) ∙ is) d.new in omega arith
          | inr other ↦ h.2 at e above (omega arith) (sym (d.same at other) ∙ is)
        ]

deeper-kept : (deep more : ℕ → Option ℕ) (count depth from to : ℕ) → Deepened deep more count depth → to < count → Deeper deep from to → Deeper more from to
deeper-kept deep more count depth from to d below h = record {
  order = h.order;
  depth = h.depth;
  first = d.same from (λ e. omega (arith, h.order)) ∙ h.first;
  last = d.same to (λ e. omega arith) ∙ h.last;
  between = λ at e above under is. h.between at e above under (sym (d.same at (λ here. omega arith)) ∙ is);
}

module _ (all more : Roles) (deep deepen : ℕ → Option ℕ) (count : ℕ) (brackets : List Opened) (n : Nesting all deep count brackets) (d : Deepened deep deepen count (length brackets)) where
  -- a token that is no closer
  added-closed : (role : Role) (mate : ℕ) → Added all more count (role, mate) → ((bracket : Bracket) → role ≡ Close bracket → ⊥) →
      (to from : ℕ) (bracket : Bracket) → more to ≡ Some (Close bracket, from) → (to < suc count) × Deeper deepen from to
  added-closed role mate a no_closer to from bracket e =
      elim (cases_eq to count) [
        | inl here ↦ absurd (no_closer bracket (entry-parts (more count) role (Close bracket) mate from a.new (ap more (sym here) ∙ e)).0)
        | inr other ↦ let old = n.closed to from bracket (sym (a.same to other) ∙ e) in (omega (arith, old.0), deeper-kept deep deepen count (length brackets) from to d old.0 old.1)
      ]

  plain-nesting : (role : Role) (mate : ℕ) → Added all more count (role, mate) → ((bracket : Bracket) → role ≡ Close bracket → ⊥) → Nesting more deepen (suc count) brackets
  plain-nesting role mate a no_closer = record {
    stacked = stacked-kept deep deepen count (length brackets) brackets d (omega arith) n.stacked;
    closed = added-closed role mate a no_closer;
  }

  open-nesting : (opened : Opened) (mate : ℕ) (bracket : Bracket) → opened.at ≡ count → Added all more count (Open bracket, mate) → Nesting more deepen (suc count) (opened ∷ brackets)
  open-nesting opened mate bracket at_is a = record {
    stacked = (omega arith, ap deepen at_is ∙ d.new, (λ at e above within is. absurd (omega arith)), stacked-kept deep deepen count (length brackets) brackets d (omega arith) n.stacked);
    closed = added-closed (Open bracket) mate a (λ b e. cc);
  }

closed-nesting : (all more : Roles) (deep deepen : ℕ → Option ℕ) (count : ℕ) (opened : Opened) (outer : List Opened) → Nesting all deep count (opened ∷ outer) →
    Deepened deep deepen count (suc (length outer)) → Closed all more count opened.at opened.bracket → Nesting more deepen (suc count) outer
closed-nesting all more deep deepen count opened outer n d a = record {
  stacked = stacked-kept deep deepen count (suc (length outer)) outer d (omega arith) n.stacked.3;
  closed = closed;
}
  where
    new : Deeper deepen opened.at count
    new = record {
      order = n.stacked.0;
      depth = length outer;
      first = d.same opened.at (λ e. omega (arith, n.stacked.0)) ∙ n.stacked.1;
      last = d.new;
      between = λ at e above under is. n.stacked.2 at e above under (sym (d.same at (λ here. omega arith)) ∙ is);
    }

    at_new : (to from : ℕ) (bracket : Bracket) → to ≡ count → more to ≡ Some (Close bracket, from) → (to < suc count) × Deeper deepen from to
    at_new to from bracket here e =
        let parts = entry-parts (more count) (Close opened.bracket) (Close bracket) opened.at from a.new (ap more (sym here) ∙ e) in
        rw (here, ← parts.1) (omega arith, new)

    no_opener : (to from : ℕ) (bracket : Bracket) → to ≡ opened.at → more to ≡ Some (Close bracket, from) → ⊥
    no_opener to from bracket here e =
        let parts = entry-parts (more opened.at) (Open opened.bracket) (Close bracket) count from a.told (ap more (sym here) ∙ e) in let same = parts.0 in cc

    closed : (to from : ℕ) (bracket : Bracket) → more to ≡ Some (Close bracket, from) → (to < suc count) × Deeper deepen from to
    closed to from bracket e =
        elim (cases_eq to count) [
          | inl here ↦ at_new to from bracket here e
          | inr past ↦ elim (cases_eq to opened.at) [
            | inl here ↦ absurd (no_opener to from bracket here e)
            | inr other ↦ let old = n.closed to from bracket (sym (a.same to past other) ∙ e) in (omega (arith, old.0), deeper-kept deep deepen count (suc (length outer)) from to d old.0 old.1)
          ]
        ]

-- one step
module _ (text : List ℕ) (tokens : List Token) (found : LexToken) where
  abbrev after : ℕ → List Token
  after mate = with_mate tokens mate (length tokens) ++ mated_token found mate ∷ []

  abbrev Nested : List Token → List Opened → Type 0
  Nested list brackets = Nesting (plays text list) (depths list) (length list) brackets

  module _ (brackets : List Opened) (p : Pairing (plays text tokens) (length tokens) brackets) (n : Nested tokens brackets) (depth_is : found.depth ≡ length brackets) where
    deep : Deepened (depths tokens) (depths (after (length tokens))) (length tokens) (length brackets)
    deep = rw (← depth_is) (deepened tokens found (length tokens) (length tokens))

    plain-nest : (role : Role) → role_in text found ≡ role → ((bracket : Bracket) → role ≡ Close bracket → ⊥) →
        Nesting (plays text (after (length tokens))) (depths (after (length tokens))) (suc (length tokens)) brackets
    plain-nest role e no_closer =
        plain-nesting (plays text tokens) (plays text (after (length tokens))) (depths tokens) (depths (after (length tokens))) (length tokens) brackets n deep role (length tokens)
        (own-added text tokens found brackets p role e) no_closer

    open-nest : (bracket : Bracket) (value : Bool) → role_in text found ≡ Open bracket →
        Nesting (plays text (after (length tokens))) (depths (after (length tokens))) (suc (length tokens)) (record { at = length tokens; bracket = bracket; value = value } ∷ brackets)
    open-nest bracket value e =
        open-nesting (plays text tokens) (plays text (after (length tokens))) (depths tokens) (depths (after (length tokens))) (length tokens) brackets n deep
        (record { at = length tokens; bracket = bracket; value = value }) (length tokens) bracket refl (own-added text tokens found brackets p (Open bracket) e)

  close-nest : (bracket : Bracket) (brackets : List Opened) → Pairing (plays text tokens) (length tokens) brackets → Nested tokens brackets → found.depth ≡ length brackets →
      role_in text found ≡ Close bracket → misplaced 4096 brackets (Close bracket) ≡ None →
      Nesting (plays text (after (mate_by (Close bracket) (length tokens) brackets))) (depths (after (mate_by (Close bracket) (length tokens) brackets))) (suc (length tokens)) (drop 1 brackets)
  close-nest bracket [] p n depth_is e placed = cc
  close-nest bracket (opened ∷ outer) p n depth_is e placed =
      let same = same-brackets bracket opened.bracket (fits (same_bracket bracket opened.bracket) Unmatched placed) in
      closed-nesting (plays text tokens) (plays text (after opened.at)) (depths tokens) (depths (after opened.at)) (length tokens) opened outer n
      (rw (← depth_is) (deepened tokens found opened.at opened.at)) (closer-told text tokens found opened outer p (e ∙ ap Close same))

  nest-step : (brackets : List Opened) (condition expression : Bool) (role : Role) → Pairing (plays text tokens) (length tokens) brackets → Nested tokens brackets → found.depth ≡ length brackets →
      role_in text found ≡ role → misplaced 4096 brackets role ≡ None →
      Nesting (plays text (after (mate_by role (length tokens) brackets))) (depths (after (mate_by role (length tokens) brackets))) (suc (length tokens)) (open_after role (length tokens) condition expression brackets)
  nest-step brackets condition expression (Open bracket) p n d e placed = open-nest brackets p n d bracket _ e
  nest-step brackets condition expression (Close bracket) p n d e placed = close-nest bracket brackets p n d e placed
  nest-step brackets condition expression Value p n d e placed = plain-nest brackets p n d Value e (λ b f. cc)
  nest-step brackets condition expression BlockWord p n d e placed = plain-nest brackets p n d BlockWord e (λ b f. cc)
  nest-step brackets condition expression Control p n d e placed = plain-nest brackets p n d Control e (λ b f. cc)
  nest-step brackets condition expression For p n d e placed = plain-nest brackets p n d For e (λ b f. cc)
  nest-step brackets condition expression Await p n d e placed = plain-nest brackets p n d Await e (λ b f. cc)
  nest-step brackets condition expression Word p n d e placed = plain-nest brackets p n d Word e (λ b f. cc)
  nest-step brackets condition expression Dot p n d e placed = plain-nest brackets p n d Dot e (λ b f. cc)
  nest-step brackets condition expression Operator p n d e placed = plain-nest brackets p n d Operator e (λ b f. cc)
  nest-step brackets condition expression Stop p n d e placed = plain-nest brackets p n d Stop e (λ b f. cc)

nesting : (text : List ℕ) (before : List LexToken) (rest : List ℕ) → Leads 4096 text before rest →
    Nesting (plays text (mated text before)) (depths (mated text before)) (length (mated text before)) (context_of text before).brackets
nesting text [] rest leads = record { stacked = tt; closed = λ to from bracket e. cc }
nesting text (found ∷ before) rest leads =
    let tokens = mated text before in
    let context = context_of text before in
    let number : length tokens ≡ length before = length-mated text before in
    let long : length (mated text (found ∷ before)) ≡ suc (length tokens) = length-mated text (found ∷ before) ∙ ap suc (sym number) in
    let brackets : (context_of text (found ∷ before)).brackets ≡ open_after (role_in text found) (length before) context.condition context.expression context.brackets = ap (λ (c : Context). c.brackets) (context-step text found before) in
    let placed = step-in_place 4096 text context leads.0 found rest leads.2 in
    let depth_is = (step-reads 4096 text context leads.0 found rest leads.2).depth_is in
    rw (long, brackets, ← number)
    (nest-step text tokens found context.brackets context.condition context.expression (role_in text found) (pairing text before leads.0 leads.1) (nesting text before leads.0 leads.1) depth_is refl placed)

-- what two mates enclose
plays-token : (text : List ℕ) (tokens : List Token) (at : ℕ) (token : Token) → slice_get tokens at ≡ Some token → plays text tokens at ≡ Some (played text token)
plays-token text tokens at token e = ap (option_map (played text)) e

pub depths-token : (tokens : List Token) (at : ℕ) (token : Token) → slice_get tokens at ≡ Some token → depths tokens at ≡ Some token.depth
depths-token tokens at token e = ap (option_map (λ t. t.depth)) e

module _ (text : List ℕ) (tokens : List Token) (mates : AreMates text tokens) (brackets : List Opened) (n : Nesting (plays text tokens) (depths tokens) (length tokens) brackets) where
  abbrev all : Roles
  all = plays text tokens

  -- two mates, and that all between them is deeper
  record ArePair (from to : ℕ) : Type 0 where
    bracket : Bracket
    opener : all from ≡ Some (Open bracket, to)
    closer : all to ≡ Some (Close bracket, from)
    deeper : Deeper (depths tokens) from to

  by-role : (from to : ℕ) (role : Role) → all from ≡ Some (role, to) → HasMate all from role to → from < to → ArePair from to
  by-role from to (Open bracket) e h below = record { bracket = bracket; opener = e; closer = h.1; deeper = (n.closed to from bracket h.1).1 }
  by-role from to (Close bracket) e h below = absurd (omega (arith, h.0))
  by-role from to Value e h below = absurd (omega (arith, h))
  by-role from to BlockWord e h below = absurd (omega (arith, h))
  by-role from to Control e h below = absurd (omega (arith, h))
  by-role from to For e h below = absurd (omega (arith, h))
  by-role from to Await e h below = absurd (omega (arith, h))
  by-role from to Word e h below = absurd (omega (arith, h))
  by-role from to Dot e h below = absurd (omega (arith, h))
  by-role from to Operator e h below = absurd (omega (arith, h))
  by-role from to Stop e h below = absurd (omega (arith, h))

  pair : (from : ℕ) (first : Token) → slice_get tokens from ≡ Some first → from < first.mate → ArePair from first.mate
  pair from first e below =
      let own = plays-token text tokens from first e in
      by-role from first.mate (played text first).0 own (mates from (played text first).0 first.mate own) below

  -- a pair that begins or ends inside another lies in it
  inner-opener : (from to at mate : ℕ) → ArePair from to → ArePair at mate → from < at → at < to → mate < to
  inner-opener from to at mate outer inner above below =
      elim (cases_lt mate to) [
        | inl under ↦ under
        | inr past ↦ elim (cases_eq to mate) [
          | inl same ↦ let parts = entry-parts (all to) (Close outer.bracket) (Close inner.bracket) from at outer.closer (ap all same ∙ inner.closer) in absurd (omega (arith, parts.1))
          | inr other ↦
              let deep = outer.deeper.between at inner.deeper.depth above below inner.deeper.first in
              let deeper = inner.deeper.between to (suc outer.deeper.depth) below (omega arith) outer.deeper.last in absurd (omega arith)
        ]
      ]

  inner-closer : (from to at mate : ℕ) → ArePair from to → ArePair mate at → from < at → at < to → from < mate
  inner-closer from to at mate outer inner above below =
      elim (cases_lt from mate) [
        | inl over ↦ over
        | inr past ↦ elim (cases_eq from mate) [
          | inl same ↦ let parts = entry-parts (all from) (Open outer.bracket) (Open inner.bracket) to at outer.opener (ap all same ∙ inner.opener) in absurd (omega (arith, parts.1))
          | inr other ↦
              let deep = outer.deeper.between at (suc inner.deeper.depth) above below inner.deeper.last in
              let deeper = inner.deeper.between from outer.deeper.depth (omega arith) above outer.deeper.first in absurd (omega arith)
        ]
      ]

  mate-within : (from to at mate : ℕ) (role : Role) → ArePair from to → all at ≡ Some (role, mate) → HasMate all at role mate → from < at → at < to → (from < mate) × (mate < to)
  mate-within from to at mate (Open bracket) outer e h above below = (omega (arith, h.0), inner-opener from to at mate outer (by-role at mate (Open bracket) e h h.0) above below)
  mate-within from to at mate (Close bracket) outer e h above below =
      (inner-closer from to at mate outer (record { bracket = bracket; opener = h.1; closer = e; deeper = (n.closed at mate bracket e).1 }) above below, omega (arith, h.0))
  mate-within from to at mate Value outer e h above below = (omega (arith, h), omega (arith, h))
  mate-within from to at mate BlockWord outer e h above below = (omega (arith, h), omega (arith, h))
  mate-within from to at mate Control outer e h above below = (omega (arith, h), omega (arith, h))
  mate-within from to at mate For outer e h above below = (omega (arith, h), omega (arith, h))
  mate-within from to at mate Await outer e h above below = (omega (arith, h), omega (arith, h))
  mate-within from to at mate Word outer e h above below = (omega (arith, h), omega (arith, h))
  mate-within from to at mate Dot outer e h above below = (omega (arith, h), omega (arith, h))
  mate-within from to at mate Operator outer e h above below = (omega (arith, h), omega (arith, h))
  mate-within from to at mate Stop outer e h above below = (omega (arith, h), omega (arith, h))

  nested : AreNested tokens
  nested from first e below =
      let outer = pair from first e below in
      let first_depth = some-same (depths tokens from) first.depth outer.deeper.depth (depths-token tokens from first e) outer.deeper.first in
      record {
        last = λ token k. some-same (depths tokens first.mate) token.depth (suc outer.deeper.depth) (depths-token tokens first.mate token k) outer.deeper.last ∙ ap suc (sym first_depth);
        between = λ at token k above under.
            let own = plays-token text tokens at token k in
            let within = mate-within from first.mate at token.mate (played text token).0 outer own (mates at (played text token).0 token.mate own) above under in
            let deep = outer.deeper.between at token.depth above under (depths-token tokens at token k) in
            record { deeper = omega arith; mate_behind = within.0; mate_before = within.1 };
      }

pub tokens-nested : (text : List ℕ) (tokens : List Token) → AreTokens text tokens → AreNested tokens
tokens-nested text tokens h =
    let found = h.0 in
    let mates = tokens-mates text tokens h in
    rw h.2 (nested text (mated text found) (rw h.2 at mates) (context_of text found).brackets (nesting text found h.1.rest h.1.leads))
