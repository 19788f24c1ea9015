-- A token takes a character at least, and behind it the context is that of the tokens with it.
use Rattle.std.proofs.Common.{ℕ, ◌≡◌, ◌<◌, ◌≤◌, Bool, true, false, cond, List, [], ◌∷◌, Option, Some, None, length, map, drop, ◌⊎◌, inl, inr, refl, sym, ap, ◌∙◌, arith}
use Rattle.std.specs.Option.{option_or}
use Rattle.std.specs.Prelude.{◌==◌}
use Rattle.std.proofs.lemmas.Bool.{ne_eqb}
use Rattle.std.specs.Prelude.{unwrap_or}
use Rattle.es_tokens.specs.Shape.{Shape, takes_empty, after_first, has_shape}
use Rattle.es_tokens.specs.Longest.{after_longest}
use Rattle.es_tokens.specs.GapShape.{gap, first_gap}
use Rattle.es_tokens.specs.Family.{shape_of, family_of}
use Rattle.es_tokens.specs.TokenRole.{role_in}
use Rattle.es_tokens.specs.Brackets.{opens, opens_after}
use Rattle.es_tokens.specs.Division.{first_encloses, opens_condition, opens_expression}
use Rattle.es_tokens.specs.Context.{context_of, context_after, opened_of, open_after, first_value}
use Rattle.es_tokens.specs.Step.{ends, token, fails, place, passed, after_gap, placed_token, token_step, step_behind, step, token_at}
use Rattle.es_tokens.specs.Misplaced.{closes, misplaced}
use Rattle.es_tokens.specs.declared.family.Family.{Family}
use Rattle.es_tokens.specs.declared.family.Family.TheVariants.{Quoted, Begun, Resumed, Private, Comment, Punctuator, Question, Regex, Decimal, NonDecimal, Name}
use Rattle.es_tokens.specs.declared.role.Bracket.TheVariants.{Template}
use Rattle.es_tokens.specs.declared.role.Role.{Role}
use Rattle.es_tokens.specs.declared.role.Role.TheVariants.{Value, BlockWord, Control, For, Await, Word, Dot, Open, Close, Operator, Stop}
use Rattle.es_tokens.specs.declared.context.Opened.{Opened}
use Rattle.es_tokens.specs.declared.context.Context.{Context}
use Rattle.es_tokens.specs.declared.token.LexToken.{LexToken}
use Rattle.es_tokens.specs.declared.token.TokenKind.{TokenKind}
use Rattle.es_tokens.specs.declared.token.TokenFault.{TokenFault}

found_or_all : (a : Option (List ℕ)) (b : Bool) (cs r : List ℕ) → option_or a (cond b (Some cs) None) ≡ Some r → (a ≡ Some r) ⊎ ((b ≡ true) × (r ≡ cs))
found_or_all (Some x) b cs r e = inl e
found_or_all None true cs r e = inr (refl, cc)
found_or_all None false cs r e = cc

-- what is left is no more than there was
pub longest-within : (passes : List ℕ → Bool) (cs r : List ℕ) → after_longest passes cs ≡ Some r → length r ≤ length cs
longest-within passes [] r e = elim (found_or_all None (passes []) [] r e) [ inl h ↦ cc | inr h ↦ omega (arith, ap length h.1) ]
longest-within passes (c ∷ cs) r e =
    elim (found_or_all (after_longest (λ front. passes (c ∷ front)) cs) (passes []) (c ∷ cs) r e)
    [ inl h ↦ omega (arith, longest-within (λ front. passes (c ∷ front)) cs r h) | inr h ↦ omega (arith, ap length h.1) ]

-- and less, where the empty front doesn't pass
pub longest-shorter : (s : Shape) (cs r : List ℕ) → takes_empty s ≡ false → after_longest (has_shape s) cs ≡ Some r → length r < length cs
longest-shorter s [] r n e = elim (found_or_all None (takes_empty s) [] r e) [ inl h ↦ cc | inr h ↦ cc ]
longest-shorter s (c ∷ cs) r n e =
    elim (found_or_all (after_longest (has_shape (after_first s c)) cs) (takes_empty s) (c ∷ cs) r e)
    [ inl h ↦ omega (arith, longest-within (has_shape (after_first s c)) cs r h) | inr h ↦ cc ]

-- no token is empty
pub family-takes : (f : Family) → takes_empty (shape_of f) ≡ false
family-takes (Quoted q) = refl
family-takes Begun = refl
family-takes Resumed = refl
family-takes Private = refl
family-takes Comment = refl
family-takes Punctuator = refl
family-takes Question = refl
family-takes Regex = refl
family-takes Decimal = refl
family-takes NonDecimal = refl
family-takes Name = refl

left_within : (o : Option (List ℕ)) (rest : List ℕ) → ((r : List ℕ) → o ≡ Some r → length r ≤ length rest) → length (unwrap_or o rest) ≤ length rest
left_within None rest h = omega arith
left_within (Some r) rest h = h r refl

gap-within : (first : Bool) (rest : List ℕ) → length (after_gap first rest) ≤ length rest
unfolding after_gap
gap-within first rest = left_within _ rest (longest-within (has_shape (cond first first_gap gap)) rest)

pub placed-left : (found t : LexToken) (r left : List ℕ) (wrong : Option TokenKind) → placed_token found r wrong ≡ token t left → r ≡ left
placed-left found t r left None e = cc
placed-left found t r left (Some kind) e = cc

token-shorter : (most : ℕ) (text : List ℕ) (brackets : List Opened) (f : Family) (from : List ℕ) (begun : List ℕ) (o : Option (List ℕ)) (t : LexToken) (left : List ℕ) →
    ((r : List ℕ) → o ≡ Some r → length r < length begun) → token_step most text brackets f from begun o ≡ token t left → length left < length begun
token-shorter most text brackets f from begun None t left h e = cc
token-shorter most text brackets f from begun (Some r) t left h e =
    let same = placed-left _ t r left _ e in
    omega (arith, h r refl, ap length same)

pub end-no_token : (b : Bool) (f : TokenFault) (t : LexToken) (left : List ℕ) → cond b ends (fails f) ≡ token t left → ⊥
end-no_token true f t left e = cc
end-no_token false f t left e = cc

behind-shorter : (most : ℕ) (text : List ℕ) (context : Context) (from : List ℕ) (begun : List ℕ) (t : LexToken) (left : List ℕ) →
    step_behind most text context from begun ≡ token t left → length left < length begun
behind-shorter most text context from [] t left e = absurd (end-no_token _ _ t left e)
behind-shorter most text context from (c ∷ more) t left e =
    let f = family_of context.division (closes Template context.brackets) c more in
    token-shorter most text context.brackets f (passed from (c ∷ more)) (c ∷ more) _ t left (λ r. longest-shorter (shape_of f) (c ∷ more) r (family-takes f)) e

pub step-shorter : (most : ℕ) (text : List ℕ) (context : Context) (rest : List ℕ) (t : LexToken) (left : List ℕ) →
    step most text context rest ≡ token t left → length left < length rest
unfolding step
step-shorter most text context rest t left e =
    omega (arith, behind-shorter most text context rest (after_gap context.first rest) t left e, gap-within context.first rest)

-- the flags and brackets behind a token
first-encloses : (text : List ℕ) (opened : List (List LexToken)) → first_encloses text opened ≡ first_value (map (opened_of text) opened)
first-encloses text [] = refl
first-encloses text ([] ∷ outer) = refl
first-encloses text ((opener ∷ before) ∷ outer) = refl

map-drop : (text : List ℕ) (opened : List (List LexToken)) → map (opened_of text) (drop 1 opened) ≡ drop 1 (map (opened_of text) opened)
map-drop text [] = refl
map-drop text (first ∷ outer) = refl

brackets-step : (text : List ℕ) (t : LexToken) (before : List LexToken) (r : Role) → role_in text t ≡ r →
    map (opened_of text) (opens_after r (t ∷ before) (opens text before))
    ≡ open_after r (length before) (opens_condition text before) (opens_expression text before) (map (opened_of text) (opens text before))
brackets-step text t before (Open bracket) e = rw e refl
brackets-step text t before (Close bracket) e = map-drop text (opens text before)
brackets-step text t before Value e = refl
brackets-step text t before BlockWord e = refl
brackets-step text t before Control e = refl
brackets-step text t before For e = refl
brackets-step text t before Await e = refl
brackets-step text t before Word e = refl
brackets-step text t before Dot e = refl
brackets-step text t before Operator e = refl
brackets-step text t before Stop e = refl

pub context-step : (text : List ℕ) (t : LexToken) (before : List LexToken) →
    context_of text (t ∷ before) ≡ context_after (context_of text before) (role_in text t) (length before)
context-step text t before = rw (first-encloses text (opens text before), brackets-step text t before (role_in text t) refl) refl

-- a step's token has its bracket in place
pub placed-none : (found t : LexToken) (r left : List ℕ) (wrong : Option TokenKind) → placed_token found r wrong ≡ token t left → (wrong ≡ None) × (found ≡ t)
placed-none found t r left None e = (refl, cc)
placed-none found t r left (Some kind) e = cc

token-in_place : (most : ℕ) (text : List ℕ) (brackets : List Opened) (f : Family) (from : List ℕ) (begun : List ℕ) (o : Option (List ℕ)) (t : LexToken) (left : List ℕ) →
    token_step most text brackets f from begun o ≡ token t left → misplaced most brackets (role_in text t) ≡ None
token-in_place most text brackets f from begun None t left e = cc
token-in_place most text brackets f from begun (Some r) t left e =
    let found = token_at text f from (place text begun) (place text r) (length brackets) in
    let both = placed-none found t r left _ e in
    ap (λ (x : LexToken). misplaced most brackets (role_in text x)) (sym both.1) ∙ both.0

behind-in_place : (most : ℕ) (text : List ℕ) (context : Context) (from : List ℕ) (begun : List ℕ) (t : LexToken) (left : List ℕ) →
    step_behind most text context from begun ≡ token t left → misplaced most context.brackets (role_in text t) ≡ None
behind-in_place most text context from [] t left e = absurd (end-no_token _ _ t left e)
behind-in_place most text context from (c ∷ more) t left e = token-in_place most text context.brackets _ (passed from (c ∷ more)) (c ∷ more) _ t left e

pub step-in_place : (most : ℕ) (text : List ℕ) (context : Context) (rest : List ℕ) (t : LexToken) (left : List ℕ) →
    step most text context rest ≡ token t left → misplaced most context.brackets (role_in text t) ≡ None
unfolding step
step-in_place most text context rest t left e = behind-in_place most text context rest (after_gap context.first rest) t left e

-- where the text ends no bracket is open
no-end : (test : Bool) (f : TokenFault) → test ≡ false → cond test ends (fails f) ≡ ends → ⊥
no-end true f n e = cc
no-end false f n e = cc

placed-no_end : (found : LexToken) (r : List ℕ) (wrong : Option TokenKind) → placed_token found r wrong ≡ ends → ⊥
placed-no_end found r None e = cc
placed-no_end found r (Some kind) e = cc

end-closed : (brackets : List Opened) (f : TokenFault) → cond (length brackets == 0) ends (fails f) ≡ ends → brackets ≡ []
end-closed [] f e = refl
end-closed (opened ∷ outer) f e = absurd (no-end (length (opened ∷ outer) == 0) f (ne_eqb (length (opened ∷ outer)) 0 (λ z. omega arith)) e)

pub token-no_end : (most : ℕ) (text : List ℕ) (brackets : List Opened) (f : Family) (from : List ℕ) (begun : List ℕ) (o : Option (List ℕ)) → token_step most text brackets f from begun o ≡ ends → ⊥
token-no_end most text brackets f from begun None e = cc
token-no_end most text brackets f from begun (Some r) e = placed-no_end _ r _ e

behind-closed : (most : ℕ) (text : List ℕ) (context : Context) (from : List ℕ) (begun : List ℕ) → step_behind most text context from begun ≡ ends → context.brackets ≡ []
behind-closed most text context from [] e = end-closed context.brackets _ e
behind-closed most text context from (c ∷ more) e = absurd (token-no_end most text context.brackets _ (passed from (c ∷ more)) (c ∷ more) _ e)

pub step-closed : (most : ℕ) (text : List ℕ) (context : Context) (rest : List ℕ) → step most text context rest ≡ ends → context.brackets ≡ []
unfolding step
step-closed most text context rest e = behind-closed most text context rest (after_gap context.first rest) e
