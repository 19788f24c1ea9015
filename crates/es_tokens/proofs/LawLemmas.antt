-- The relations and the computed answer are one.
use Rattle.std.proofs.Common.{ℕ, zero, suc, ◌≡◌, ◌+◌, ◌-◌, ◌<◌, ◌≤◌, Bool, true, false, cond, List, [], ◌∷◌, Result, Ok, Err, inl, inr, ◌↔◌, length, refl, sym, ap, ◌∙◌, arith}
use Rattle.std.specs.Str.{chars, IsUtf8, is_utf8}
use Rattle.std.specs.Str.Lossy.{utf8_valid_len}
use Rattle.std.proofs.lemmas.Str.{is_utf8-from_IsUtf8, IsUtf8-from_is_utf8}
use Rattle.std.proofs.lemmas.Bool.{false_from_ne_true}
use Rattle.es_tokens.specs.AreTokens.{Leads, AreLexed, AreTokens}
use Rattle.es_tokens.specs.IsFirstFault.{FailsBehind, IsFirstFault}
use Rattle.es_tokens.specs.Context.{context_of}
use Rattle.es_tokens.specs.Step.{Next, ends, token, fails, step}
use Rattle.es_tokens.specs.Tokens.{follow, run, all_of, mated_or_fault, tokens_of}
use Rattle.es_tokens.proofs.StepLemmas.{step-shorter}
use Rattle.es_tokens.specs.declared.token.Token.{Token}
use Rattle.es_tokens.specs.declared.token.LexToken.{LexToken}
use Rattle.es_tokens.specs.declared.token.TokenFault.{TokenFault}
use Rattle.es_tokens.specs.declared.token.TokenKind.TheVariants.{NotUtf8}

-- what an answer of the run says
abbrev Told : ℕ → List ℕ → Result (List LexToken) TokenFault → Type 0
Told most text (Ok found) = (rest : List ℕ) × Leads most text found rest × (step most text (context_of text found) rest ≡ ends)
Told most text (Err fault) = (found : List LexToken) × (rest : List ℕ) × Leads most text found rest × (step most text (context_of text found) rest ≡ fails fault)

told-by_step : (most : ℕ) (text : List ℕ) (before : List LexToken) (rest : List ℕ) (on : LexToken → List ℕ → Result (List LexToken) TokenFault) → Leads most text before rest →
    ((found : LexToken) (left : List ℕ) → step most text (context_of text before) rest ≡ token found left → Told most text (on found left)) →
    (next : Next) → step most text (context_of text before) rest ≡ next → Told most text (follow next before on)
told-by_step most text before rest on leads more ends e = (rest, leads, e)
told-by_step most text before rest on leads more (token found left) e = more found left e
told-by_step most text before rest on leads more (fails fault) e = (before, rest, leads, e)

run-told : (most : ℕ) (text : List ℕ) (steps : ℕ) (before : List LexToken) (rest : List ℕ) → Leads most text before rest → length rest < steps → Told most text (run most text steps before rest)
run-told most text zero before rest leads enough = absurd (omega arith)
run-told most text (suc steps) before rest leads enough =
    told-by_step most text before rest (λ found left. run most text steps (found ∷ before) left) leads
    (λ found left e. run-told most text steps (found ∷ before) left (rest, leads, e) (omega (arith, step-shorter most text (context_of text before) rest found left e)))
    (step most text (context_of text before) rest) refl

all-told : (most : ℕ) (text : List ℕ) → Told most text (all_of most text)
unfolding all_of
all-told most text = run-told most text (suc (length (chars text))) [] (chars text) refl (omega arith)

-- the run goes through the tokens that lead somewhere
leads-run : (most : ℕ) (text : List ℕ) (before : List LexToken) (rest : List ℕ) → Leads most text before rest → (steps : ℕ) →
    run most text (length before + steps) [] (chars text) ≡ run most text steps before rest
leads-run most text [] rest leads steps = rw leads (ap (λ n. run most text n [] (chars text)) (omega arith))
leads-run most text (found ∷ before) rest leads steps =
    ap (λ n. run most text n [] (chars text)) (let e : length (found ∷ before) + steps ≡ length before + suc steps = omega arith in e)
    ∙ leads-run most text before leads.0 leads.1 (suc steps) ∙ rw leads.2 refl

pub leads-count : (most : ℕ) (text : List ℕ) (before : List LexToken) (rest : List ℕ) → Leads most text before rest → length before + length rest ≤ length (chars text)
leads-count most text [] rest leads = omega (arith, ap length leads)
leads-count most text (found ∷ before) rest leads =
    omega (arith, leads-count most text before leads.0 leads.1, step-shorter most text (context_of text before) leads.0 found rest leads.2)

leads-all : (most : ℕ) (text : List ℕ) (before : List LexToken) (rest : List ℕ) → Leads most text before rest →
    (steps : ℕ) × (all_of most text ≡ run most text (suc steps) before rest)
unfolding all_of
leads-all most text before rest leads =
    let count = leads-count most text before rest leads in
    let left = length (chars text) - length before in
    let e : suc (length (chars text)) ≡ length before + suc left = omega arith in
    (left, ap (λ n. run most text n [] (chars text)) e ∙ leads-run most text before rest leads (suc left))

lexed-all : (most : ℕ) (text : List ℕ) (found : List LexToken) → AreLexed most text found → all_of most text ≡ Ok found
lexed-all most text found h = let all = leads-all most text found h.rest h.leads in all.1 ∙ rw h.last refl

fails-all : (most : ℕ) (text : List ℕ) (fault : TokenFault) → (h : FailsBehind most text fault) → all_of most text ≡ Err fault
fails-all most text fault h = let all = leads-all most text h.found h.rest h.leads in all.1 ∙ rw h.last refl

pub tokens-one : (text : List ℕ) (tokens : List Token) → AreTokens text tokens ↔ (tokens_of text ≡ Ok tokens)
unfolding tokens_of
tokens-one text tokens = (there, back)
  where
    there : AreTokens text tokens → tokens_of text ≡ Ok tokens
    there h = rw (is_utf8-from_IsUtf8 text h.1.utf8, lexed-all 4096 text h.0 h.1) (ap Ok (sym h.2))

    by_answer : (answer : Result (List LexToken) TokenFault) → IsUtf8 text → Told 4096 text answer → mated_or_fault text answer ≡ Ok tokens → AreTokens text tokens
    by_answer (Ok found) utf8 told e = (found, record { utf8 = utf8; rest = told.0; leads = told.1; last = told.2 }, cc)
    by_answer (Err fault) utf8 told e = cc

    by_test : (test : Bool) → is_utf8 text ≡ test → cond test (mated_or_fault text (all_of 4096 text)) (Err (record { offset = utf8_valid_len text; kind = NotUtf8 })) ≡ Ok tokens → AreTokens text tokens
    by_test true u e = by_answer (all_of 4096 text) (IsUtf8-from_is_utf8 text u) (all-told 4096 text) e
    by_test false u e = cc

    back : tokens_of text ≡ Ok tokens → AreTokens text tokens
    back e = by_test (is_utf8 text) refl e

pub fault-one : (text : List ℕ) (fault : TokenFault) → IsFirstFault text fault ↔ (tokens_of text ≡ Err fault)
unfolding tokens_of
fault-one text fault = (there, back)
  where
    not_utf8 : ¬ (IsUtf8 text) → is_utf8 text ≡ false
    not_utf8 n = false_from_ne_true (is_utf8 text) (λ e. n (IsUtf8-from_is_utf8 text e))

    there : IsFirstFault text fault → tokens_of text ≡ Err fault
    there (inl h) = rw (not_utf8 h.0) (ap Err (sym h.1))
    there (inr h) = rw (is_utf8-from_IsUtf8 text h.utf8, fails-all 4096 text fault h) refl

    by_answer : (answer : Result (List LexToken) TokenFault) → IsUtf8 text → Told 4096 text answer → mated_or_fault text answer ≡ Err fault → FailsBehind 4096 text fault
    by_answer (Ok found) utf8 told e = cc
    by_answer (Err other) utf8 told e =
        let same : other ≡ fault = cc in
        record { utf8 = utf8; found = told.0; rest = told.1; leads = told.2; last = told.3 ∙ ap fails same }

    by_test : (test : Bool) → is_utf8 text ≡ test → cond test (mated_or_fault text (all_of 4096 text)) (Err (record { offset = utf8_valid_len text; kind = NotUtf8 })) ≡ Err fault → IsFirstFault text fault
    by_test true u e = inr (by_answer (all_of 4096 text) (IsUtf8-from_is_utf8 text u) (all-told 4096 text) e)
    by_test false u e = inl ((λ h. let t = is_utf8-from_IsUtf8 text h in cc), cc)

    back : tokens_of text ≡ Err fault → IsFirstFault text fault
    back e = by_test (is_utf8 text) refl e
