-- Each opener gets its closer.
use Rattle.std.proofs.Common.{ℕ, zero, suc, ◌≡◌, ◌<◌, ◌≤◌, Bool, true, false, cond, List, [], ◌∷◌, ◌++◌, Option, None, Some, ◌⊎◌, inl, inr, length, refl, sym, ap, ◌∙◌, arith}
use Rattle.std.proofs.lemmas.Bool.{cases_eq}
use Rattle.es_tokens.specs.TokenRole.{role_in}
use Rattle.es_tokens.specs.AreTokens.{Leads, AreTokens}
use Rattle.es_tokens.specs.Context.{context_of, open_after}
use Rattle.es_tokens.specs.Mates.{played, plays, HasMate, AreMates}
use Rattle.es_tokens.specs.Misplaced.{same_bracket, misplaced}
use Rattle.es_tokens.specs.Mated.{mate_by, mated_token, with_mate, mated}
use Rattle.es_tokens.proofs.StepLemmas.{context-step, step-in_place, step-closed}
use Rattle.std.specs.Prelude.{drop}
use Rattle.es_tokens.proofs.TokensLemmas.{length-mated, length-with_mate, with_mate-past}
use Rattle.es_tokens.specs.declared.context.Context.{Context}
use Rattle.es_tokens.specs.declared.token.TokenKind.{TokenKind}
use Rattle.es_tokens.specs.declared.token.TokenKind.TheVariants.{Unmatched}
use Rattle.es_tokens.specs.declared.context.Opened.{Opened}
use Rattle.es_tokens.specs.declared.role.Bracket.{Bracket}
use Rattle.es_tokens.specs.declared.role.Bracket.TheVariants.{Round, Square, Curly, Template}
use Rattle.es_tokens.specs.declared.role.Role.{Role}
use Rattle.es_tokens.specs.declared.role.Role.TheVariants.{Value, BlockWord, Control, For, Await, Word, Dot, Open, Close, Operator, Stop}
use Rattle.es_tokens.specs.declared.token.Token.{Token}
use Rattle.es_tokens.specs.declared.token.LexToken.{LexToken}

abbrev pub Roles : Type 0
Roles = ℕ → Option (Role × ℕ)

-- the open brackets, the innermost first, stand below a number and are their own mates so far
abbrev pub Pending : Roles → ℕ → List Opened → Type 0
Pending all number [] = Unit {0}
Pending all number (opened ∷ outer) = (opened.at < number) × (all opened.at ≡ Some (Open opened.bracket, opened.at)) × Pending all opened.at outer

abbrev pub IsOpen : List Opened → ℕ → Type 0
IsOpen [] number = ⊥
IsOpen (opened ∷ outer) number = (number ≡ opened.at) ⊎ IsOpen outer number

-- so many tokens, of which each has its mate or is open
pub record Pairing (all : Roles) (count : ℕ) (brackets : List Opened) : Type 0 where
  pub beyond : (number : ℕ) → count ≤ number → all number ≡ None
  pub pending : Pending all count brackets
  pub rest : (number : ℕ) (role : Role) (mate : ℕ) → all number ≡ Some (role, mate) → HasMate all number role mate ⊎ IsOpen brackets number

pub entry-parts : (entry : Option (Role × ℕ)) (role r : Role) (mate m : ℕ) → entry ≡ Some (role, mate) → entry ≡ Some (r, m) → (role ≡ r) × (mate ≡ m)
entry-parts entry role r mate m e f =
    let pair : (role, mate) ≡ (r, m) = cc in (ap (λ (x : Role × ℕ). x.0) pair, ap (λ (x : Role × ℕ). x.1) pair)

-- a mate is kept where its partner is
kept : (all more : Roles) (number : ℕ) (role : Role) (mate : ℕ) → ((entry : Role × ℕ) → all mate ≡ Some entry → entry.1 ≡ number → more mate ≡ Some entry) →
    HasMate all number role mate → HasMate more number role mate
kept all more number (Open bracket) mate keeps h = (h.0, keeps (Close bracket, number) h.1 refl)
kept all more number (Close bracket) mate keeps h = (h.0, keeps (Open bracket, number) h.1 refl)
kept all more number Value mate keeps h = h
kept all more number BlockWord mate keeps h = h
kept all more number Control mate keeps h = h
kept all more number For mate keeps h = h
kept all more number Await mate keeps h = h
kept all more number Word mate keeps h = h
kept all more number Dot mate keeps h = h
kept all more number Operator mate keeps h = h
kept all more number Stop mate keeps h = h

pending-kept : (all more : Roles) (count : ℕ) (brackets : List Opened) → ((number : ℕ) → number < count → more number ≡ all number) →
    Pending all count brackets → Pending more count brackets
pending-kept all more count [] same h = tt
pending-kept all more count (opened ∷ outer) same h =
    (h.0, same opened.at h.0 ∙ h.1, pending-kept all more opened.at outer (λ number below. same number (omega (arith, h.0))) h.2)

pending-more : (all : Roles) (count most : ℕ) (brackets : List Opened) → count ≤ most → Pending all count brackets → Pending all most brackets
pending-more all count most [] below h = tt
pending-more all count most (opened ∷ outer) below h = (omega (arith, h.0), h.1, h.2)

-- one more token, and no other is changed
pub record Added (all more : Roles) (count : ℕ) (entry : Role × ℕ) : Type 0 where
  pub same : (number : ℕ) → (number ≡ count → ⊥) → more number ≡ all number
  pub new : more count ≡ Some entry

module _ (all more : Roles) (count : ℕ) (brackets : List Opened) (role : Role) (mate : ℕ) (p : Pairing all count brackets) (a : Added all more count (role, mate)) where
  added-beyond : (number : ℕ) → suc count ≤ number → more number ≡ None
  added-beyond number above = a.same number (omega arith) ∙ p.beyond number (omega arith)

  added-pending : Pending more count brackets
  added-pending = pending-kept all more count brackets (λ number below. a.same number (omega arith)) p.pending

  added-kept : (number : ℕ) (r : Role) (m : ℕ) → HasMate all number r m → HasMate more number r m
  added-kept number r m h = kept all more number r m keeps h
    where
      keeps : (entry : Role × ℕ) → all m ≡ Some entry → entry.1 ≡ number → more m ≡ Some entry
      keeps entry e i = a.same m (λ at_count. let none = p.beyond m (omega arith) in cc) ∙ e

  -- a token that is no bracket
  plain-rest : HasMate more count role mate → (number : ℕ) (r : Role) (m : ℕ) → more number ≡ Some (r, m) → HasMate more number r m ⊎ IsOpen brackets number
  plain-rest own number r m e =
      elim (cases_eq number count) [
        | inl here ↦
            let at_count : more count ≡ Some (r, m) = ap more (sym here) ∙ e in
            let parts = entry-parts (more count) role r mate m a.new at_count in
            inl (rw (here, ← parts.0, ← parts.1) own)
        | inr other ↦ elim (p.rest number r m (sym (a.same number other) ∙ e)) [ inl h ↦ inl (added-kept number r m h) | inr h ↦ inr h ]
      ]

  open-rest : (opened : Opened) → opened.at ≡ count → (number : ℕ) (r : Role) (m : ℕ) → more number ≡ Some (r, m) → HasMate more number r m ⊎ IsOpen (opened ∷ brackets) number
  open-rest opened at_is number r m e =
      elim (cases_eq number count) [
        | inl here ↦ inr (inl (here ∙ sym at_is))
        | inr other ↦ elim (p.rest number r m (sym (a.same number other) ∙ e)) [ inl h ↦ inl (added-kept number r m h) | inr h ↦ inr (inr h) ]
      ]

-- a closer, which its opener is told of
pub record Closed (all more : Roles) (count opener : ℕ) (bracket : Bracket) : Type 0 where
  pub same : (number : ℕ) → (number ≡ count → ⊥) → (number ≡ opener → ⊥) → more number ≡ all number
  pub new : more count ≡ Some (Close bracket, opener)
  pub told : more opener ≡ Some (Open bracket, count)

module _ (all more : Roles) (count : ℕ) (opened : Opened) (outer : List Opened) (p : Pairing all count (opened ∷ outer)) (a : Closed all more count opened.at opened.bracket) where
  closed-pairing : Pairing more (suc count) outer
  closed-pairing = record {
    beyond = λ number above. a.same number (omega arith) (omega (arith, p.pending.0)) ∙ p.beyond number (omega arith);
    pending = pending-more more opened.at (suc count) outer (omega (arith, p.pending.0))
        (pending-kept all more opened.at outer (λ number below. a.same number (omega (arith, p.pending.0)) (omega arith)) p.pending.2);
    rest = closed-rest;
  }
    where
      closed-kept : (number : ℕ) (r : Role) (m : ℕ) → (number ≡ opened.at → ⊥) → HasMate all number r m → HasMate more number r m
      closed-kept number r m other h = kept all more number r m keeps h
        where
          keeps : (entry : Role × ℕ) → all m ≡ Some entry → entry.1 ≡ number → more m ≡ Some entry
          keeps entry e i =
              a.same m (λ at_count. let none = p.beyond m (omega arith) in cc)
              (λ at_opener. let pending = p.pending.1 in let at = ap all at_opener in let own : entry.1 ≡ opened.at = cc in other (sym i ∙ own))
              ∙ e

      role_new : (r : Role) (m : ℕ) → more count ≡ Some (r, m) → HasMate more count r m
      role_new r m e =
          let parts = entry-parts (more count) (Close opened.bracket) r opened.at m a.new e in
          rw (← parts.0, ← parts.1) (p.pending.0, a.told)

      role_told : (r : Role) (m : ℕ) → more opened.at ≡ Some (r, m) → HasMate more opened.at r m
      role_told r m e =
          let parts = entry-parts (more opened.at) (Open opened.bracket) r count m a.told e in
          rw (← parts.0, ← parts.1) (p.pending.0, a.new)

      others : (number : ℕ) (r : Role) (m : ℕ) → (number ≡ opened.at → ⊥) → HasMate all number r m ⊎ IsOpen (opened ∷ outer) number → HasMate more number r m ⊎ IsOpen outer number
      others number r m other (inl h) = inl (closed-kept number r m other h)
      others number r m other (inr (inl h)) = absurd (other h)
      others number r m other (inr (inr h)) = inr h

      closed-rest : (number : ℕ) (r : Role) (m : ℕ) → more number ≡ Some (r, m) → HasMate more number r m ⊎ IsOpen outer number
      closed-rest number r m e =
          elim (cases_eq number count) [
            | inl here ↦ inl (rw here (role_new r m (ap more (sym here) ∙ e)))
            | inr past ↦ elim (cases_eq number opened.at) [
              | inl here ↦ inl (rw here (role_told r m (ap more (sym here) ∙ e)))
              | inr other ↦ others number r m other (p.rest number r m (sym (a.same number past other) ∙ e))
            ]
          ]

-- how a list's roles and mates change
plays-other : (text : List ℕ) (tokens : List Token) (number mate other : ℕ) → (other ≡ number → ⊥) → plays text (with_mate tokens number mate) other ≡ plays text tokens other
plays-other text [] number mate other n = refl
plays-other text (first ∷ tokens) zero mate zero n = absurd (n refl)
plays-other text (first ∷ tokens) zero mate (suc other) n = refl
plays-other text (first ∷ tokens) (suc number) mate zero n = refl
plays-other text (first ∷ tokens) (suc number) mate (suc other) n = plays-other text tokens number mate other (λ e. n (ap suc e))

plays-told : (text : List ℕ) (tokens : List Token) (number mate was : ℕ) (role : Role) → plays text tokens number ≡ Some (role, was) → plays text (with_mate tokens number mate) number ≡ Some (role, mate)
plays-told text [] number mate was role e = cc
plays-told text (first ∷ tokens) zero mate was role e =
    let same : (played text first).0 ≡ role = cc in ap (λ (r : Role). Some (r, mate)) same
plays-told text (first ∷ tokens) (suc number) mate was role e = plays-told text tokens number mate was role e

plays-before : (text : List ℕ) (tokens more : List Token) (number : ℕ) → number < length tokens → plays text (tokens ++ more) number ≡ plays text tokens number
plays-before text [] more number below = absurd (omega arith)
plays-before text (first ∷ tokens) more zero below = refl
plays-before text (first ∷ tokens) more (suc number) below = plays-before text tokens more number (omega arith)

plays-last : (text : List ℕ) (tokens : List Token) (last : Token) → plays text (tokens ++ last ∷ []) (length tokens) ≡ Some (played text last)
plays-last text [] last = refl
plays-last text (first ∷ tokens) last = plays-last text tokens last

plays-past : (text : List ℕ) (tokens : List Token) (number : ℕ) → length tokens ≤ number → plays text tokens number ≡ None
plays-past text [] number above = refl
plays-past text (first ∷ tokens) zero above = absurd (omega arith)
plays-past text (first ∷ tokens) (suc number) above = plays-past text tokens number (omega arith)

plays-added : (text : List ℕ) (tokens : List Token) (last : Token) (number : ℕ) → (number ≡ length tokens → ⊥) → plays text (tokens ++ last ∷ []) number ≡ plays text tokens number
plays-added text [] last zero n = absurd (n refl)
plays-added text [] last (suc number) n = refl
plays-added text (first ∷ tokens) last zero n = refl
plays-added text (first ∷ tokens) last (suc number) n = plays-added text tokens last number (λ e. n (ap suc e))

played-mated : (text : List ℕ) (found : LexToken) (mate : ℕ) → played text (mated_token found mate) ≡ (role_in text found, mate)
unfolding role_in
played-mated text found mate = refl

pub same-brackets : (one other : Bracket) → same_bracket one other ≡ true → one ≡ other
same-brackets Round Round e = refl
same-brackets Square Square e = refl
same-brackets Curly Curly e = refl
same-brackets Template Template e = refl
same-brackets Round Square e = cc
same-brackets Round Curly e = cc
same-brackets Round Template e = cc
same-brackets Square Round e = cc
same-brackets Square Curly e = cc
same-brackets Square Template e = cc
same-brackets Curly Round e = cc
same-brackets Curly Square e = cc
same-brackets Curly Template e = cc
same-brackets Template Round e = cc
same-brackets Template Square e = cc
same-brackets Template Curly e = cc

module _ (text : List ℕ) (tokens : List Token) (found : LexToken) (brackets : List Opened) (p : Pairing (plays text tokens) (length tokens) brackets) where
  -- a token that is its own mate so far
  pub own-added : (role : Role) → role_in text found ≡ role →
      Added (plays text tokens) (plays text (with_mate tokens (length tokens) (length tokens) ++ mated_token found (length tokens) ∷ [])) (length tokens) (role, length tokens)
  own-added role e = rw (with_mate-past tokens (length tokens) (length tokens) (omega arith)) (record {
    same = plays-added text tokens (mated_token found (length tokens));
    new = plays-last text tokens (mated_token found (length tokens)) ∙ ap Some (played-mated text found (length tokens)) ∙ ap (λ (r : Role). Some (r, length tokens)) e;
  })

  plain-pairing : (role : Role) → role_in text found ≡ role → ((all : Roles) → HasMate all (length tokens) role (length tokens)) →
      Pairing (plays text (with_mate tokens (length tokens) (length tokens) ++ mated_token found (length tokens) ∷ [])) (suc (length tokens)) brackets
  plain-pairing role e own =
      let all = plays text tokens in
      let more = plays text (with_mate tokens (length tokens) (length tokens) ++ mated_token found (length tokens) ∷ []) in
      let added = own-added role e in
      record {
        beyond = added-beyond all more (length tokens) brackets role (length tokens) p added;
        pending = pending-more more (length tokens) (suc (length tokens)) brackets (omega arith) (added-pending all more (length tokens) brackets role (length tokens) p added);
        rest = plain-rest all more (length tokens) brackets role (length tokens) p added (own more);
      }

  open-pairing : (bracket : Bracket) (value : Bool) → role_in text found ≡ Open bracket →
      Pairing (plays text (with_mate tokens (length tokens) (length tokens) ++ mated_token found (length tokens) ∷ [])) (suc (length tokens))
      (record { at = length tokens; bracket = bracket; value = value } ∷ brackets)
  open-pairing bracket value e =
      let all = plays text tokens in
      let more = plays text (with_mate tokens (length tokens) (length tokens) ++ mated_token found (length tokens) ∷ []) in
      let added = own-added (Open bracket) e in
      record {
        beyond = added-beyond all more (length tokens) brackets (Open bracket) (length tokens) p added;
        pending = (omega arith, added.new, added-pending all more (length tokens) brackets (Open bracket) (length tokens) p added);
        rest = open-rest all more (length tokens) brackets (Open bracket) (length tokens) p added (record { at = length tokens; bracket = bracket; value = value }) refl;
      }

pub closer-told : (text : List ℕ) (tokens : List Token) (found : LexToken) (opened : Opened) (outer : List Opened) → Pairing (plays text tokens) (length tokens) (opened ∷ outer) →
    role_in text found ≡ Close opened.bracket →
    Closed (plays text tokens) (plays text (with_mate tokens opened.at (length tokens) ++ mated_token found opened.at ∷ [])) (length tokens) opened.at opened.bracket
closer-told text tokens found opened outer p e =
    let told = with_mate tokens opened.at (length tokens) in
    let long : length told ≡ length tokens = length-with_mate tokens opened.at (length tokens) in
    record {
      same = λ number n k. plays-added text told (mated_token found opened.at) number (λ at. n (at ∙ long)) ∙ plays-other text tokens opened.at (length tokens) number k;
      new = ap (plays text (told ++ mated_token found opened.at ∷ [])) (sym long) ∙ plays-last text told (mated_token found opened.at) ∙ ap Some (played-mated text found opened.at) ∙ ap (λ (r : Role). Some (r, opened.at)) e;
      told = plays-before text told (mated_token found opened.at ∷ []) opened.at (omega (arith, p.pending.0)) ∙ plays-told text tokens opened.at (length tokens) opened.at (Open opened.bracket) p.pending.1;
    }

close-pairing : (text : List ℕ) (tokens : List Token) (found : LexToken) (opened : Opened) (outer : List Opened) → Pairing (plays text tokens) (length tokens) (opened ∷ outer) →
    role_in text found ≡ Close opened.bracket → Pairing (plays text (with_mate tokens opened.at (length tokens) ++ mated_token found opened.at ∷ [])) (suc (length tokens)) outer
close-pairing text tokens found opened outer p e =
    closed-pairing (plays text tokens) (plays text (with_mate tokens opened.at (length tokens) ++ mated_token found opened.at ∷ [])) (length tokens) opened outer p
    (closer-told text tokens found opened outer p e)

pub fits : (test : Bool) (kind : TokenKind) → cond test None (Some kind) ≡ None → test ≡ true
fits true kind e = refl
fits false kind e = cc

pub close-step : (text : List ℕ) (tokens : List Token) (found : LexToken) (bracket : Bracket) (brackets : List Opened) → Pairing (plays text tokens) (length tokens) brackets →
    role_in text found ≡ Close bracket → misplaced 4096 brackets (Close bracket) ≡ None →
    Pairing (plays text (with_mate tokens (mate_by (Close bracket) (length tokens) brackets) (length tokens) ++ mated_token found (mate_by (Close bracket) (length tokens) brackets) ∷ [])) (suc (length tokens)) (drop 1 brackets)
close-step text tokens found bracket [] p e placed = cc
close-step text tokens found bracket (opened ∷ outer) p e placed =
    let same = same-brackets bracket opened.bracket (fits (same_bracket bracket opened.bracket) Unmatched placed) in
    close-pairing text tokens found opened outer p (e ∙ ap Close same)

pairing-step : (text : List ℕ) (tokens : List Token) (found : LexToken) (brackets : List Opened) (condition expression : Bool) (role : Role) →
    Pairing (plays text tokens) (length tokens) brackets → role_in text found ≡ role → misplaced 4096 brackets role ≡ None →
    Pairing (plays text (with_mate tokens (mate_by role (length tokens) brackets) (length tokens) ++ mated_token found (mate_by role (length tokens) brackets) ∷ [])) (suc (length tokens))
    (open_after role (length tokens) condition expression brackets)
pairing-step text tokens found brackets condition expression (Open bracket) p e placed = open-pairing text tokens found brackets p bracket _ e
pairing-step text tokens found brackets condition expression (Close bracket) p e placed = close-step text tokens found bracket brackets p e placed
pairing-step text tokens found brackets condition expression Value p e placed = plain-pairing text tokens found brackets p Value e (λ all. refl)
pairing-step text tokens found brackets condition expression BlockWord p e placed = plain-pairing text tokens found brackets p BlockWord e (λ all. refl)
pairing-step text tokens found brackets condition expression Control p e placed = plain-pairing text tokens found brackets p Control e (λ all. refl)
pairing-step text tokens found brackets condition expression For p e placed = plain-pairing text tokens found brackets p For e (λ all. refl)
pairing-step text tokens found brackets condition expression Await p e placed = plain-pairing text tokens found brackets p Await e (λ all. refl)
pairing-step text tokens found brackets condition expression Word p e placed = plain-pairing text tokens found brackets p Word e (λ all. refl)
pairing-step text tokens found brackets condition expression Dot p e placed = plain-pairing text tokens found brackets p Dot e (λ all. refl)
pairing-step text tokens found brackets condition expression Operator p e placed = plain-pairing text tokens found brackets p Operator e (λ all. refl)
pairing-step text tokens found brackets condition expression Stop p e placed = plain-pairing text tokens found brackets p Stop e (λ all. refl)

pub pairing : (text : List ℕ) (before : List LexToken) (rest : List ℕ) → Leads 4096 text before rest →
    Pairing (plays text (mated text before)) (length (mated text before)) (context_of text before).brackets
pairing text [] rest leads = record { beyond = λ number above. refl; pending = tt; rest = λ number role mate e. cc }
pairing text (found ∷ before) rest leads =
    let tokens = mated text before in
    let context = context_of text before in
    let number : length tokens ≡ length before = length-mated text before in
    let long : length (mated text (found ∷ before)) ≡ suc (length tokens) = length-mated text (found ∷ before) ∙ ap suc (sym number) in
    let brackets : (context_of text (found ∷ before)).brackets ≡ open_after (role_in text found) (length before) context.condition context.expression context.brackets = ap (λ (c : Context). c.brackets) (context-step text found before) in
    let placed = step-in_place 4096 text context leads.0 found rest leads.2 in
    rw (long, brackets, ← number) (pairing-step text tokens found context.brackets context.condition context.expression (role_in text found) (pairing text before leads.0 leads.1) refl placed)

closed-mates : (all : Roles) (count : ℕ) (brackets : List Opened) → brackets ≡ [] → Pairing all count brackets →
    (number : ℕ) (role : Role) (mate : ℕ) → all number ≡ Some (role, mate) → HasMate all number role mate
closed-mates all count [] e p number role mate h = elim (p.rest number role mate h) [ inl k ↦ k | inr k ↦ absurd k ]
closed-mates all count (opened ∷ outer) e p number role mate h = cc

pub tokens-mates : (text : List ℕ) (tokens : List Token) → AreTokens text tokens → AreMates text tokens
tokens-mates text tokens h =
    let found = h.0 in
    rw h.2 (closed-mates (plays text (mated text found)) (length (mated text found)) (context_of text found).brackets
    (step-closed 4096 text (context_of text found) h.1.rest h.1.last) (pairing text found h.1.rest h.1.leads))
