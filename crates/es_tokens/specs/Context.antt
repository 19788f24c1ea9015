-- What the tokens so far say of the next one.
use Rattle.std.specs.Prelude.{ℕ, Bool, true, false, List, [], ◌∷◌, length, drop, map}
use Rattle.es_tokens.specs.TokenRole.{role_in}
use Rattle.es_tokens.specs.Brackets.{opens}
use Rattle.es_tokens.specs.Division.{is_dot, after_dot, is_loop, after_for, precedes_condition, opens_condition, wants_value, opens_expression, bracket_holds_value, encloses_value, precedes_division, is_division}
use Rattle.es_tokens.specs.declared.role.Bracket.{Bracket}
use Rattle.es_tokens.specs.declared.role.Bracket.TheVariants.{Round}
use Rattle.es_tokens.specs.declared.role.Role.{Role}
use Rattle.es_tokens.specs.declared.role.Role.TheVariants.{Open, Close}
use Rattle.es_tokens.specs.declared.token.LexToken.{LexToken}
use Rattle.es_tokens.specs.declared.context.Opened.{Opened}
use Rattle.es_tokens.specs.declared.context.Context.{Context}

abbrev pub bracket_of : Role → Bracket
bracket_of (Open bracket) = bracket
bracket_of _ = Round

-- an open bracket: its number, its kind, and whether it encloses a value
abbrev pub opened_of : List ℕ → List LexToken → Opened
opened_of text [] = record { at = 0; bracket = Round; value = false }
opened_of text (opener ∷ before) =
    record { at = length before; bracket = bracket_of (role_in text opener); value = encloses_value text (opener ∷ before) }

abbrev pub is_none : List LexToken → Bool
is_none [] = true
is_none (token ∷ before) = false

-- what tokens, the last one first, say
abbrev pub context_of : List ℕ → List LexToken → Context
context_of text tokens = record {
  first = is_none tokens;
  division = is_division text tokens;
  expression = opens_expression text tokens;
  dotted = after_dot text tokens;
  looped = after_for text tokens;
  condition = opens_condition text tokens;
  brackets = map (opened_of text) (opens text tokens);
}

-- the brackets that a token leaves open
abbrev pub open_after : Role → ℕ → Bool → Bool → List Opened → List Opened
open_after (Open bracket) at condition expression outer =
    record { at = at; bracket = bracket; value = bracket_holds_value (Open bracket) condition expression } ∷ outer
open_after (Close bracket) at condition expression outer = drop 1 outer
open_after _ at condition expression outer = outer

abbrev pub first_value : List Opened → Bool
first_value [] = false
first_value (opened ∷ outer) = opened.value

-- the context behind a token of this role and number
abbrev pub context_after : Context → Role → ℕ → Context
context_after context role at = record {
  first = false;
  division = precedes_division role context.dotted (first_value context.brackets);
  expression = wants_value role;
  dotted = is_dot role;
  looped = is_loop role context.dotted;
  condition = precedes_condition role context.dotted context.looped;
  brackets = open_after role at context.condition context.expression context.brackets;
}
