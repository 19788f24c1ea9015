-- Where faults stand in a text.
use Rattle.std.proofs.Common.{ℕ, ◌≡◌, ◌≤◌, Bool, true, false, List, [], ◌∷◌, Err, inl, inr, length, sym, subst, arith}
use Rattle.std.proofs.lemmas.Str.{utf8_valid_len_le}
use Rattle.std.specs.Prelude.{Option, Some, None, ◌==◌, if◌then◌else◌}
use Rattle.es_tokens.specs.Context.{context_of}
use Rattle.es_tokens.specs.Family.{family_of}
use Rattle.es_tokens.specs.IsFirstFault.{IsFirstFault}
use Rattle.es_tokens.specs.Misplaced.{closes}
use Rattle.es_tokens.specs.Step.{Next, ends, fails, token, fail_at, passed, place, placed_token, token_at, token_step, step_behind, step, after_gap}
use Rattle.es_tokens.specs.Tokens.{tokens_of}
use Rattle.es_tokens.specs.declared.context.Context.{Context}
use Rattle.es_tokens.specs.declared.context.Opened.{Opened}
use Rattle.es_tokens.specs.declared.family.Family.{Family}
use Rattle.es_tokens.specs.declared.role.Bracket.TheVariants.{Template}
use Rattle.es_tokens.specs.declared.token.LexToken.{LexToken}
use Rattle.es_tokens.specs.declared.token.TokenFault.{TokenFault}
use Rattle.es_tokens.specs.declared.token.TokenKind.{TokenKind}
use Rattle.es_tokens.specs.declared.token.TokenKind.TheVariants.{Open}
use Rattle.es_tokens.proofs.LawLemmas.{fault-one}

-- the offset of a step's fault, and nothing where it is none
abbrev offset_in : Next → ℕ
offset_in ends = 0
offset_in (token found rest) = 0
offset_in (fails fault) = fault.offset

none : (text : List ℕ) → 0 ≤ length text
none text = omega arith

ended-within : (text : List ℕ) (closed : Bool) → offset_in (if closed then ends else fail_at (length text) Open) ≤ length text
ended-within text true = none text
ended-within text false = let whole : length text ≤ length text = omega arith in whole

placed-within : (text : List ℕ) (found : LexToken) (rest : List ℕ) (kind : Option TokenKind) → found.span.start ≤ length text → offset_in (placed_token found rest kind) ≤ length text
placed-within text found rest None short = none text
placed-within text found rest (Some kind) short = short

token-within : (most : ℕ) (text : List ℕ) (brackets : List Opened) (family : Family) (gap begun : List ℕ) (left : Option (List ℕ)) → offset_in (token_step most text brackets family gap begun left) ≤ length text
token-within most text brackets family gap begun None = let short : place text begun ≤ length text = omega arith in short
token-within most text brackets family gap begun (Some rest) =
    let short : place text begun ≤ length text = omega arith in
    placed-within text (token_at text family gap (place text begun) (place text rest) (length brackets)) rest _ short

behind-within : (most : ℕ) (text : List ℕ) (context : Context) (rest behind : List ℕ) → offset_in (step_behind most text context rest behind) ≤ length text
behind-within most text context rest [] = ended-within text (length context.brackets == 0)
behind-within most text context rest (c ∷ more) =
    token-within most text context.brackets (family_of context.division (closes Template context.brackets) c more) (passed rest (c ∷ more)) (c ∷ more) _

step-within : (most : ℕ) (text : List ℕ) (context : Context) (rest : List ℕ) → offset_in (step most text context rest) ≤ length text
unfolding step
step-within most text context rest = behind-within most text context rest (after_gap context.first rest)

first-within : (text : List ℕ) (fault : TokenFault) → IsFirstFault text fault → fault.offset ≤ length text
first-within text fault (inl bad) = subst (λ (f : TokenFault). f.offset ≤ length text) (sym bad.1) (utf8_valid_len_le text)
first-within text fault (inr behind) = subst (λ next. offset_in next ≤ length text) behind.last (step-within 4096 text (context_of text behind.found) behind.rest)

pub fault-within : (text : List ℕ) (fault : TokenFault) → tokens_of text ≡ Err fault → fault.offset ≤ length text
fault-within text fault is = first-within text fault ((fault-one text fault).1 is)
