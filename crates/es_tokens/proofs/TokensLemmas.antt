-- How the loop over the steps reaches the tokens of a text.
use Rattle.std.proofs.Common.{ℕ, zero, suc, ◌≡◌, ◌+◌, ◌<◌, ◌≤◌, Bool, true, false, List, [], ◌∷◌, ◌++◌, Ok, Err, length, refl, sym, ap, ◌∙◌, arith, length-append, set, get_or}
use Rattle.std.specs.Prelude.{nat_lt, Some, None, drop, cond}
use Rattle.std.specs.Str.{IsUtf8}
use Rattle.std.proofs.lemmas.Str.{encodes-chars, length-le-encodes}
use Rattle.std.proofs.lemmas.Bool.{ltb-true}
use Rattle.es_tokens.specs.TokenRole.{role_in}
use Rattle.es_tokens.specs.declared.context.Opened.{Opened}
use Rattle.es_tokens.specs.declared.role.Role.{Role}
use Rattle.es_tokens.specs.declared.role.Role.TheVariants.{Value, BlockWord, Control, For, Await, Word, Dot, Open, Close, Operator, Stop}
use Rattle.es_tokens.specs.declared.token.TokenKind.{TokenKind}
use Rattle.es_tokens.specs.declared.token.TokenKind.TheVariants.{Depth}
use Rattle.es_tokens.specs.Context.{context_of, context_after, open_after}
use Rattle.es_tokens.specs.Misplaced.{misplaced}
use Rattle.es_tokens.specs.Step.{ends, token, fails, step}
use Rattle.es_tokens.specs.Tokens.{run, all_of, mated_or_fault}
use Rattle.es_tokens.specs.Mated.{mate_by, mated_token, with_mate, mated}
use Rattle.std.specs.Str.{chars}
use Rattle.es_tokens.proofs.StepLemmas.{step-shorter, context-step}
use Rattle.es_tokens.specs.declared.context.Context.{Context}
use Rattle.es_tokens.specs.declared.token.Token.{Token}
use Rattle.es_tokens.specs.declared.token.LexToken.{LexToken}
use Rattle.es_tokens.specs.declared.token.TokenFault.{TokenFault}

-- the tokens so far lead to this context and rest, and to the same end as the whole text
pub record Reached (text : List ℕ) (tokens : List Token) (context : Context) (rest : List ℕ) : Type 0 where
  pub before : List LexToken
  pub tokens_are : tokens ≡ mated text before
  pub context_is : context ≡ context_of text before
  pub steps : ℕ
  pub runs : run 4096 text (suc steps) before rest ≡ all_of 4096 text
  pub enough : length rest ≤ steps
  pub count : length before + length rest ≤ length (chars text)

pub reached-start : (text : List ℕ) → Reached text [] (context_of text []) (chars text)
unfolding all_of
reached-start text = record { before = []; tokens_are = refl; context_is = refl; steps = length (chars text); runs = refl; enough = omega arith; count = omega arith }

pub length-with_mate : (tokens : List Token) (number mate : ℕ) → length (with_mate tokens number mate) ≡ length tokens
length-with_mate [] number mate = refl
length-with_mate (first ∷ tokens) zero mate = refl
length-with_mate (first ∷ tokens) (suc number) mate = ap suc (length-with_mate tokens number mate)

pub length-mated : (text : List ℕ) (before : List LexToken) → length (mated text before) ≡ length before
length-mated text [] = refl
length-mated text (found ∷ before) =
    let mate = mate_by (role_in text found) (length before) (context_of text before).brackets in
    length-append (with_mate (mated text before) mate (length before)) (mated_token found mate ∷ [])
    ∙ rw (length-with_mate (mated text before) mate (length before), length-mated text before) (omega arith)

run-token : (text : List ℕ) (steps : ℕ) (before : List LexToken) (rest : List ℕ) (found : LexToken) (left : List ℕ) →
    step 4096 text (context_of text before) rest ≡ token found left → length left < length rest → length rest ≤ steps →
    (fewer : ℕ) × (run 4096 text (suc steps) before rest ≡ run 4096 text (suc fewer) (found ∷ before) left) × (length left ≤ fewer)
run-token text zero before rest found left e shorter enough = absurd (omega arith)
run-token text (suc fewer) before rest found left e shorter enough = (fewer, rw e refl, omega arith)

pub reached-token : (text : List ℕ) (tokens : List Token) (context : Context) (rest : List ℕ) (found : LexToken) (left : List ℕ) →
    Reached text tokens context rest → step 4096 text context rest ≡ token found left →
    Reached text
    (with_mate tokens (mate_by (role_in text found) (length tokens) context.brackets) (length tokens)
    ++ mated_token found (mate_by (role_in text found) (length tokens) context.brackets) ∷ [])
    (context_after context (role_in text found) (length tokens)) left
reached-token text tokens context rest found left r e =
    let shorter = step-shorter 4096 text context rest found left e in
    let step_is : step 4096 text (context_of text r.before) rest ≡ token found left = rw (sym r.context_is) e in
    let number : length tokens ≡ length r.before = ap length r.tokens_are ∙ length-mated text r.before in
    let fewer = run-token text r.steps r.before rest found left step_is shorter r.enough in
    record {
      before = found ∷ r.before;
      tokens_are = rw (number, r.tokens_are, r.context_is) refl;
      context_is = rw (number, r.context_is) (sym (context-step text found r.before));
      steps = fewer.0;
      runs = sym fewer.1 ∙ r.runs;
      enough = fewer.2;
      count = omega (arith, r.count);
    }

pub reached-end : (text : List ℕ) (tokens : List Token) (context : Context) (rest : List ℕ) →
    Reached text tokens context rest → step 4096 text context rest ≡ ends → mated_or_fault text (all_of 4096 text) ≡ Ok tokens
reached-end text tokens context rest r e =
    let step_is : step 4096 text (context_of text r.before) rest ≡ ends = rw (sym r.context_is) e in
    let told : Ok r.before ≡ all_of 4096 text = (rw step_is at r.runs) in
    rw (sym told) (ap Ok (sym r.tokens_are))

pub reached-fault : (text : List ℕ) (tokens : List Token) (context : Context) (rest : List ℕ) (fault : TokenFault) →
    Reached text tokens context rest → step 4096 text context rest ≡ fails fault → mated_or_fault text (all_of 4096 text) ≡ Err fault
reached-fault text tokens context rest fault r e =
    let step_is : step 4096 text (context_of text r.before) rest ≡ fails fault = rw (sym r.context_is) e in
    let told : Err fault ≡ all_of 4096 text = (rw step_is at r.runs) in
    rw (sym told) refl

-- the write of a mate, in the list that a push has made longer
with_mate-set : (tokens : List Token) (number mate : ℕ) (d : Token) → number < length tokens →
    set tokens number (record (get_or tokens number d) { mate = mate }) ≡ with_mate tokens number mate
with_mate-set [] number mate d h = absurd (omega arith)
with_mate-set (first ∷ tokens) zero mate d h = refl
with_mate-set (first ∷ tokens) (suc number) mate d h = ap (λ rest. first ∷ rest) (with_mate-set tokens number mate d (omega arith))

with_mate-append : (tokens more : List Token) (number mate : ℕ) → number < length tokens → with_mate (tokens ++ more) number mate ≡ with_mate tokens number mate ++ more
with_mate-append [] more number mate h = absurd (omega arith)
with_mate-append (first ∷ tokens) more zero mate h = refl
with_mate-append (first ∷ tokens) more (suc number) mate h = ap (λ rest. first ∷ rest) (with_mate-append tokens more number mate (omega arith))

pub with_mate-past : (tokens : List Token) (number mate : ℕ) → length tokens ≤ number → with_mate tokens number mate ≡ tokens
with_mate-past [] number mate h = refl
with_mate-past (first ∷ tokens) zero mate h = absurd (omega arith)
with_mate-past (first ∷ tokens) (suc number) mate h = ap (λ rest. first ∷ rest) (with_mate-past tokens number mate (omega arith))

pub set-mate : (tokens more : List Token) (number mate : ℕ) (was : Token) → number < length tokens → was ≡ get_or (tokens ++ more) number was →
    set (tokens ++ more) number (record was { mate = mate }) ≡ with_mate tokens number mate ++ more
set-mate tokens more number mate was h e =
    ap (λ (t : Token). set (tokens ++ more) number (record t { mate = mate })) e
    ∙ with_mate-set (tokens ++ more) number mate was (omega (arith, length-append tokens more))
    ∙ with_mate-append tokens more number mate h

pub reached-number : (text : List ℕ) (tokens : List Token) (context : Context) (rest : List ℕ) → IsUtf8 text → Reached text tokens context rest →
    length tokens ≤ length text
reached-number text tokens context rest utf8 r =
    let number : length tokens ≡ length r.before = ap length r.tokens_are ∙ length-mated text r.before in
    let most : length (chars text) ≤ length text = rw (encodes-chars text utf8) at (length-le-encodes (chars text)) in
    omega (arith, r.count)

-- the same as `reached-token`, of what the code's calls promise
pub reached-next : (text : List ℕ) (tokens more : List Token) (context next : Context) (rest left : List ℕ) (found : LexToken) (role : Role) (at mate : ℕ) →
    Reached text tokens context rest → step 4096 text context rest ≡ token found left → role ≡ role_in text found → at ≡ length tokens →
    mate ≡ mate_by role at context.brackets → next ≡ context_after context role at →
    more ≡ with_mate tokens mate (length tokens) ++ mated_token found mate ∷ [] → Reached text more next left
reached-next text tokens more context next rest left found role at mate r e role_is at_is mate_is next_is more_is =
    rw (more_is, mate_is, next_is, role_is, at_is) (reached-token text tokens context rest found left r e)

in_place : (b : Bool) (kind : TokenKind) → cond b None (Some kind) ≡ None → b ≡ true
in_place true kind e = refl
in_place false kind e = cc

drop-shorter : (brackets : List Opened) → length (drop 1 brackets) ≤ length brackets
drop-shorter [] = omega arith
drop-shorter (opened ∷ outer) = omega arith

-- a bracket that is in place isn't one too many
pub misplaced-deep : (most : ℕ) (brackets : List Opened) (role : Role) (at : ℕ) (condition expression : Bool) →
    misplaced most brackets role ≡ None → length brackets ≤ most → length (open_after role at condition expression brackets) ≤ most
misplaced-deep most brackets (Open bracket) at condition expression e h =
    let below = ltb-true (length brackets) most (in_place (nat_lt (length brackets) most) Depth e) in omega arith
misplaced-deep most brackets (Close bracket) at condition expression e h = omega (arith, drop-shorter brackets)
misplaced-deep most brackets Value at condition expression e h = h
misplaced-deep most brackets BlockWord at condition expression e h = h
misplaced-deep most brackets Control at condition expression e h = h
misplaced-deep most brackets For at condition expression e h = h
misplaced-deep most brackets Await at condition expression e h = h
misplaced-deep most brackets Word at condition expression e h = h
misplaced-deep most brackets Dot at condition expression e h = h
misplaced-deep most brackets Operator at condition expression e h = h
misplaced-deep most brackets Stop at condition expression e h = h
