-- What a lexer still has to answer is what the tokens so far leave.
use Rattle.std.proofs.Common.{ℕ, zero, suc, ◌≡◌, ◌+◌, ◌<◌, ◌≤◌, List, [], ◌∷◌, Result, Ok, Err, length, refl, subst, ap, arith, add-one}
use mathlib.Core.List.{reverse_aux}
use Rattle.std.specs.Prelude.{false, IfOk, reverse, map, ◌++◌, ◌-◌}
use Rattle.std.proofs.Common.{append-nil, ◌∙◌}
use Rattle.es_tokens.specs.AreTokens.{Leads, AreLexed}
use Rattle.es_tokens.specs.IsFirstFault.{FailsBehind}
use Rattle.es_tokens.proofs.LawLemmas.{leads-count}
use Rattle.std.specs.Str.{chars, IsUtf8, is_utf8}
use Rattle.std.specs.Str.Lossy.{utf8_valid_len}
use Rattle.std.proofs.lemmas.Str.{encodes-chars, length-le-encodes, is_utf8-from_IsUtf8, IsUtf8-from_is_utf8}
use Rattle.std.proofs.lemmas.Bool.{false_from_ne_true}
use Rattle.es_tokens.specs.declared.token.TokenKind.TheVariants.{NotUtf8}
use Rattle.es_tokens.specs.Answers.{and_more, answers_behind, answers_of}
use Rattle.es_tokens.specs.TokenRole.{role_in}
use Rattle.es_tokens.specs.Context.{context_of, context_after}
use Rattle.es_tokens.specs.inner.Left.{left_by, left_of}
use Rattle.es_tokens.specs.Step.{Next, ends, token, fails, step}
use Rattle.es_tokens.proofs.StepLemmas.{step-shorter, context-step}
use Rattle.es_tokens.specs.declared.context.Context.{Context}
use Rattle.es_tokens.specs.declared.token.LexToken.{LexToken}
use Rattle.es_tokens.specs.declared.token.TokenFault.{TokenFault}

more-same : (next : Next) (on other : LexToken → List ℕ → List (Result LexToken TokenFault)) →
    ((found : LexToken) (left : List ℕ) → next ≡ token found left → on found left ≡ other found left) → and_more next on ≡ and_more next other
more-same ends on other same = refl
more-same (token found left) on other same = ap (λ more. Ok found ∷ more) (same found left refl)
more-same (fails fault) on other same = refl

-- steps that are enough all give the same
pub left-steps : (most : ℕ) (text : List ℕ) (steps more : ℕ) (context : Context) (number : ℕ) (rest : List ℕ) → length rest < steps → length rest < more →
    left_by most text steps context number rest ≡ left_by most text more context number rest
left-steps most text zero more context number rest enough other = absurd (omega arith)
left-steps most text (suc steps) zero context number rest enough other = absurd (omega arith)
left-steps most text (suc steps) (suc more) context number rest enough other =
    more-same (step most text context rest) _ _ (λ found left e.
    let shorter = step-shorter most text context rest found left e in
    left-steps most text steps more (context_after context (role_in text found) number) (number + 1) left (omega arith) (omega arith))

pub left-answers : (most : ℕ) (text : List ℕ) (steps : ℕ) (before : List LexToken) (rest : List ℕ) →
    left_by most text steps (context_of text before) (length before) rest ≡ answers_behind most text steps before rest
left-answers most text zero before rest = refl
left-answers most text (suc steps) before rest =
    more-same (step most text (context_of text before) rest) _ _ (λ found left e.
    rw (add-one, ← context-step text found before) (left-answers most text steps (found ∷ before) left))

-- a step's token is the first of what is left
pub left-token : (most : ℕ) (text : List ℕ) (context : Context) (number : ℕ) (rest left : List ℕ) (found : LexToken) →
    step most text context (chars rest) ≡ token found (chars left) →
    left_of most text context number rest ≡ Ok found ∷ left_of most text (context_after context (role_in text found) number) (number + 1) left
left-token most text context number rest left found e =
    let shorter = step-shorter most text context (chars rest) found (chars left) e in
    rw e (ap (λ more. Ok found ∷ more)
    (left-steps most text (length (chars rest)) (suc (length (chars left))) (context_after context (role_in text found) number) (number + 1) (chars left) shorter (omega arith)))

pub count-chars : (text : List ℕ) → IsUtf8 text → length (chars text) ≤ length text
count-chars text utf8 = (rw (encodes-chars text utf8) at (length-le-encodes (chars text)))

pub left-all : (most : ℕ) (text : List ℕ) → IsUtf8 text → left_of most text (context_of [] []) 0 text ≡ answers_of most text
unfolding answers_of
left-all most text utf8 = rw (is_utf8-from_IsUtf8 text utf8) (left-answers most text (suc (length (chars text))) [] (chars text))

pub not-utf8 : (most : ℕ) (text : List ℕ) → ¬ (IsUtf8 text) → Err (record { offset = utf8_valid_len text; kind = NotUtf8 }) ∷ [] ≡ answers_of most text
unfolding answers_of
not-utf8 most text bad =
    let test : is_utf8 text ≡ false = false_from_ne_true (is_utf8 text) (λ e. bad (IsUtf8-from_is_utf8 text e)) in
    rw test refl

pub made-of : {X E : Type 0} (made : Result X E) (one other : X) → one ≡ other → IfOk made (λ x. x ≡ one) → IfOk made (λ x. x ≡ other)
made-of {X} made one other e h = subst (λ (y : X). IfOk made (λ x. x ≡ y)) e h

-- the answers are the tokens and then the end or the fault
abbrev put_before : List LexToken → List (Result LexToken TokenFault) → List (Result LexToken TokenFault)
put_before [] more = more
put_before (found ∷ before) more = put_before before (Ok found ∷ more)

put-reverse : (before tokens : List LexToken) (last : List (Result LexToken TokenFault)) →
    put_before before (map Ok tokens ++ last) ≡ map Ok (reverse_aux before tokens) ++ last
put-reverse [] tokens last = refl
put-reverse (found ∷ before) tokens last = put-reverse before (found ∷ tokens) last

answers-lead : (most : ℕ) (text : List ℕ) (before : List LexToken) (rest : List ℕ) → Leads most text before rest → (steps : ℕ) →
    answers_behind most text (length before + steps) [] (chars text) ≡ put_before before (answers_behind most text steps before rest)
answers-lead most text [] rest leads steps = rw leads (ap (λ n. answers_behind most text n [] (chars text)) (omega arith))
answers-lead most text (found ∷ before) rest leads steps =
    ap (λ n. answers_behind most text n [] (chars text)) (let e : length (found ∷ before) + steps ≡ length before + suc steps = omega arith in e)
    ∙ answers-lead most text before leads.0 leads.1 (suc steps) ∙ rw leads.2 refl

answers-all : (most : ℕ) (text : List ℕ) (before : List LexToken) (rest : List ℕ) → IsUtf8 text → Leads most text before rest →
    (steps : ℕ) × (answers_of most text ≡ put_before before (answers_behind most text (suc steps) before rest))
unfolding answers_of
answers-all most text before rest utf8 leads =
    let count = leads-count most text before rest leads in
    let left = length (chars text) - length before in
    let e : suc (length (chars text)) ≡ length before + suc left = omega arith in
    (left, rw (is_utf8-from_IsUtf8 text utf8) (ap (λ n. answers_behind most text n [] (chars text)) e ∙ answers-lead most text before rest leads (suc left)))

pub answers-lexed : (most : ℕ) (text : List ℕ) (found : List LexToken) → AreLexed most text found → answers_of most text ≡ map Ok (reverse found)
answers-lexed most text found h =
    let all = answers-all most text found h.rest h.utf8 h.leads in
    all.1 ∙ rw h.last (put-reverse found [] []) ∙ append-nil _

pub answers-fail : (most : ℕ) (text : List ℕ) (fault : TokenFault) (h : FailsBehind most text fault) → answers_of most text ≡ map Ok (reverse h.found) ++ Err fault ∷ []
answers-fail most text fault h =
    let all = answers-all most text h.found h.rest h.utf8 h.leads in
    all.1 ∙ rw h.last (put-reverse h.found [] (Err fault ∷ []))
