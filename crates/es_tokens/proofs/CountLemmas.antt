-- A token's depth is how many brackets are opened before it and not closed before it.
use Rattle.std.proofs.Common.{ℕ, zero, suc, ◌≡◌, ◌+◌, ◌<◌, ◌≤◌, Bool, cond, List, [], ◌∷◌, ◌++◌, None, Some, inl, inr, length, take, refl, sym, ap, ◌∙◌, arith}
use Rattle.std.proofs.lemmas.Bool.{cases_lt, cases_eq}
use Rattle.std.proofs.lemmas.List.Sums.{sum_by-cons}
use Rattle.std.specs.List.{count_by}
use Rattle.es_tokens.specs.AreTokens.{Leads, AreTokens}
use Rattle.es_tokens.specs.Context.{context_of, open_after}
use Rattle.es_tokens.specs.Depths.{is_opener, is_closer, role_at, DepthsCountOpen}
use Rattle.es_tokens.specs.Mated.{mate_by, mated_token, with_mate, mated}
use Rattle.es_tokens.specs.Misplaced.{misplaced}
use Rattle.es_tokens.specs.TokenRole.{role_in}
use Rattle.es_tokens.proofs.DepthLemmas.{depths, depths-mate, depths-added, depths-last, depths-token, some-same}
use Rattle.es_tokens.proofs.PartLemmas.{step-reads}
use Rattle.es_tokens.proofs.StepLemmas.{context-step, step-in_place}
use Rattle.es_tokens.proofs.TokensLemmas.{length-mated}
use Rattle.es_tokens.specs.declared.context.Context.{Context}
use Rattle.es_tokens.specs.declared.context.Opened.{Opened}
use Rattle.es_tokens.specs.declared.role.Role.{Role}
use Rattle.es_tokens.specs.declared.role.Role.TheVariants.{Value, BlockWord, Control, For, Await, Word, Dot, Open, Close, Operator, Stop}
use Rattle.es_tokens.specs.declared.token.Token.{Token}
use Rattle.es_tokens.specs.declared.token.LexToken.{LexToken}

-- how many tokens have a role that passes
abbrev counted : (Role → Bool) → List ℕ → List Token → ℕ
counted passes text tokens = count_by (λ t. passes (role_at text t)) tokens

count-cons : (passes : Role → Bool) (text : List ℕ) (first : Token) (tokens : List Token) → counted passes text (first ∷ tokens) ≡ cond (passes (role_at text first)) 1 0 + counted passes text tokens
count-cons passes text first tokens = sum_by-cons (λ t. cond (passes (role_at text t)) 1 0) first tokens

count-mate : (passes : Role → Bool) (text : List ℕ) (tokens : List Token) (number mate at : ℕ) →
    counted passes text (take at (with_mate tokens number mate)) ≡ counted passes text (take at tokens)
count-mate passes text [] number mate at = refl
count-mate passes text (first ∷ tokens) zero mate zero = refl
count-mate passes text (first ∷ tokens) zero mate (suc at) = refl
count-mate passes text (first ∷ tokens) (suc number) mate zero = refl
count-mate passes text (first ∷ tokens) (suc number) mate (suc at) =
    count-cons passes text first (take at (with_mate tokens number mate)) ∙ ap (λ n. cond (passes (role_at text first)) 1 0 + n) (count-mate passes text tokens number mate at)
    ∙ sym (count-cons passes text first (take at tokens))

count-told : (passes : Role → Bool) (text : List ℕ) (tokens : List Token) (number mate : ℕ) → counted passes text (with_mate tokens number mate) ≡ counted passes text tokens
count-told passes text [] number mate = refl
count-told passes text (first ∷ tokens) zero mate = refl
count-told passes text (first ∷ tokens) (suc number) mate =
    count-cons passes text first (with_mate tokens number mate) ∙ ap (λ n. cond (passes (role_at text first)) 1 0 + n) (count-told passes text tokens number mate)
    ∙ sym (count-cons passes text first tokens)

count-added : (passes : Role → Bool) (text : List ℕ) (tokens : List Token) (last : Token) → counted passes text (tokens ++ last ∷ []) ≡ counted passes text tokens + cond (passes (role_at text last)) 1 0
count-added passes text [] last = omega (arith, count-cons passes text last [])
count-added passes text (first ∷ tokens) last = omega (arith, count-added passes text tokens last, count-cons passes text first tokens, count-cons passes text first (tokens ++ last ∷ []))

role-mated : (text : List ℕ) (found : LexToken) (mate : ℕ) → role_at text (mated_token found mate) ≡ role_in text found
unfolding role_in
role-mated text found mate = refl

count-next : (passes : Role → Bool) (text : List ℕ) (tokens : List Token) (found : LexToken) (at mate : ℕ) (role : Role) → role_in text found ≡ role →
    counted passes text (with_mate tokens at (length tokens) ++ mated_token found mate ∷ []) ≡ counted passes text tokens + cond (passes role) 1 0
count-next passes text tokens found at mate role e =
    count-added passes text (with_mate tokens at (length tokens)) (mated_token found mate)
    ∙ rw (count-told passes text tokens at (length tokens), role-mated text found mate, e) refl

-- so many brackets are open
abbrev IsCount : List ℕ → List Token → ℕ → Type 0
IsCount text tokens open_count = open_count + counted is_closer text tokens ≡ counted is_opener text tokens

count-step : (text : List ℕ) (tokens : List Token) (found : LexToken) (brackets : List Opened) (number : ℕ) (condition expression : Bool) (role : Role) → role_in text found ≡ role →
    misplaced 4096 brackets role ≡ None → IsCount text tokens (length brackets) →
    IsCount text (with_mate tokens (mate_by role number brackets) (length tokens) ++ mated_token found (mate_by role number brackets) ∷ []) (length (open_after role number condition expression brackets))
count-step text tokens found brackets number condition expression role e placed h = by_role role brackets _ _ _ _ placed h (closers (mate_by role number brackets)) (openers (mate_by role number brackets))
  where
    closers : (mate : ℕ) → counted is_closer text (with_mate tokens mate (length tokens) ++ mated_token found mate ∷ []) ≡ counted is_closer text tokens + cond (is_closer role) 1 0
    closers mate = count-next is_closer text tokens found mate mate role e

    openers : (mate : ℕ) → counted is_opener text (with_mate tokens mate (length tokens) ++ mated_token found mate ∷ []) ≡ counted is_opener text tokens + cond (is_opener role) 1 0
    openers mate = count-next is_opener text tokens found mate mate role e

    by_role : (r : Role) (outer : List Opened) (c o more_c more_o : ℕ) → misplaced 4096 outer r ≡ None → length outer + c ≡ o → more_c ≡ c + cond (is_closer r) 1 0 → more_o ≡ o + cond (is_opener r) 1 0 →
        length (open_after r number condition expression outer) + more_c ≡ more_o
    by_role (Open bracket) outer c o more_c more_o placed h closed opened = omega arith
    by_role (Close bracket) [] c o more_c more_o placed h closed opened = cc
    by_role (Close bracket) (opener ∷ outer) c o more_c more_o placed h closed opened = omega arith
    by_role Value outer c o more_c more_o placed h closed opened = omega arith
    by_role BlockWord outer c o more_c more_o placed h closed opened = omega arith
    by_role Control outer c o more_c more_o placed h closed opened = omega arith
    by_role For outer c o more_c more_o placed h closed opened = omega arith
    by_role Await outer c o more_c more_o placed h closed opened = omega arith
    by_role Word outer c o more_c more_o placed h closed opened = omega arith
    by_role Dot outer c o more_c more_o placed h closed opened = omega arith
    by_role Operator outer c o more_c more_o placed h closed opened = omega arith
    by_role Stop outer c o more_c more_o placed h closed opened = omega arith

-- each depth counts
abbrev EachCounts : List ℕ → List Token → Type 0
EachCounts text tokens = (at depth : ℕ) → depths tokens at ≡ Some depth → IsCount text (take at tokens) depth

past : (tokens : List Token) (at : ℕ) → length tokens ≤ at → depths tokens at ≡ None
past [] at above = refl
past (first ∷ tokens) zero above = absurd (omega arith)
past (first ∷ tokens) (suc at) above = past tokens at (omega arith)

all-taken : (tokens more : List Token) → take (length tokens) (tokens ++ more) ≡ tokens
all-taken [] more = refl
all-taken (first ∷ tokens) more = ap (λ rest. first ∷ rest) (all-taken tokens more)

front-taken : (tokens more : List Token) (at : ℕ) → at < length tokens → take at (tokens ++ more) ≡ take at tokens
front-taken [] more at below = absurd (omega arith)
front-taken (first ∷ tokens) more zero below = refl
front-taken (first ∷ tokens) more (suc at) below = ap (λ rest. first ∷ rest) (front-taken tokens more at (omega arith))

each-told : (text : List ℕ) (tokens : List Token) (number mate : ℕ) → EachCounts text tokens → EachCounts text (with_mate tokens number mate)
each-told text tokens number mate h at depth e =
    rw (count-mate is_closer text tokens number mate at, count-mate is_opener text tokens number mate at) (h at depth (sym (depths-mate tokens number mate at) ∙ e))

each-added : (text : List ℕ) (tokens : List Token) (last : Token) → EachCounts text tokens → IsCount text tokens last.depth → EachCounts text (tokens ++ last ∷ [])
each-added text tokens last h count at depth e =
    elim (cases_eq at (length tokens)) [
      | inl here ↦
          let depth_is = some-same (depths (tokens ++ last ∷ []) (length tokens)) depth last.depth (ap (depths (tokens ++ last ∷ [])) (sym here) ∙ e) (depths-last tokens last) in
          rw (here, all-taken tokens (last ∷ []), depth_is) count
      | inr other ↦
          let was = sym (depths-added tokens last at other) ∙ e in
          elim (cases_lt at (length tokens)) [
            | inl below ↦ rw (front-taken tokens (last ∷ []) at below) (h at depth was)
            | inr above ↦ let none = past tokens at above in cc
          ]
    ]

-- the counts behind the tokens so far
record Counts (text : List ℕ) (tokens : List Token) (brackets : List Opened) : Type 0 where
  each : EachCounts text tokens
  all : IsCount text tokens (length brackets)

counts : (text : List ℕ) (before : List LexToken) (rest : List ℕ) → Leads 4096 text before rest → Counts text (mated text before) (context_of text before).brackets
counts text [] rest leads = record { each = λ at depth e. cc; all = refl }
counts text (found ∷ before) rest leads =
    let tokens = mated text before in
    let context = context_of text before in
    let role = role_in text found in
    let mate = mate_by role (length before) context.brackets in
    let number : length before ≡ length tokens = sym (length-mated text before) in
    let so_far = counts text before leads.0 leads.1 in
    let placed = step-in_place 4096 text context leads.0 found rest leads.2 in
    let depth_is = (step-reads 4096 text context leads.0 found rest leads.2).depth_is in
    let brackets : (context_of text (found ∷ before)).brackets ≡ open_after role (length before) context.condition context.expression context.brackets = ap (λ (c : Context). c.brackets) (context-step text found before) in
    let told = with_mate tokens mate (length before) in
    let count : IsCount text told found.depth =
    ap (λ n. n + counted is_closer text told) depth_is ∙ ap (λ n. length context.brackets + n) (count-told is_closer text tokens mate (length before)) ∙ so_far.all
    ∙ sym (count-told is_opener text tokens mate (length before)) in
    record {
      each = each-added text told (mated_token found mate) (each-told text tokens mate (length before) so_far.each) count;
      all = rw brackets (ap (λ n. length (open_after role (length before) context.condition context.expression context.brackets)
          + counted is_closer text (with_mate tokens mate n ++ mated_token found mate ∷ [])) number
          ∙ count-step text tokens found context.brackets (length before) context.condition context.expression role refl placed so_far.all
          ∙ ap (λ n. counted is_opener text (with_mate tokens mate n ++ mated_token found mate ∷ [])) (sym number));
    }

pub depths-count : (text : List ℕ) (tokens : List Token) → AreTokens text tokens → DepthsCountOpen text tokens
depths-count text tokens h at token e =
    (counts-of h.2 (counts text h.0 h.1.rest h.1.leads)).each at token.depth (depths-token tokens at token e)
  where
    counts-of : {before : List Token} {brackets : List Opened} → tokens ≡ before → Counts text before brackets → Counts text tokens brackets
    counts-of same c = rw same c
