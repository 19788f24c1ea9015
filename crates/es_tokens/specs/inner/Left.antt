-- What a lexer still has to answer.
use Rattle.std.specs.Prelude.{ℕ, zero, suc, ◌+◌, ◌≤◌, ◌^◌, List, [], ◌∷◌, length, Result, Err}
use Rattle.std.specs.Str.{chars}
use Rattle.es_tokens.specs.Answers.{and_more}
use Rattle.es_tokens.specs.TokenRole.{role_in}
use Rattle.es_tokens.specs.Context.{context_after}
use Rattle.es_tokens.specs.Step.{step}
use Rattle.es_tokens.specs.declared.ahead.Ahead.{Ahead}
use Rattle.es_tokens.specs.declared.ahead.Ahead.TheVariants.{Tokens, Fault, Nothing}
use Rattle.es_tokens.specs.declared.context.Context.{Context}
use Rattle.es_tokens.specs.declared.token.LexToken.{LexToken}
use Rattle.es_tokens.specs.declared.token.TokenFault.{TokenFault}

-- the answers behind so many tokens, by their context, after at most so many steps
abbrev pub left_by : ℕ → List ℕ → ℕ → Context → ℕ → List ℕ → List (Result LexToken TokenFault)
left_by most text zero context number rest = []
left_by most text (suc steps) context number rest =
    and_more (step most text context rest) (λ found left. left_by most text steps (context_after context (role_in text found) number) (number + 1) left)

abbrev pub left_ahead : Ahead → List (Result LexToken TokenFault) → List (Result LexToken TokenFault)
left_ahead Tokens left = left
left_ahead (Fault fault) left = Err fault ∷ []
left_ahead Nothing left = []

abbrev pub left_of : ℕ → List ℕ → Context → ℕ → List ℕ → List (Result LexToken TokenFault)
left_of most text context number rest = left_by most text (suc (length (chars rest))) context number (chars rest)

-- a rest of a text that isn't too long, behind so many tokens
pub record IsWithin (most : ℕ) (text : List ℕ) (context : Context) (number : ℕ) (rest : List ℕ) : Type 0 where
  pub within : length rest ≤ length text
  pub short : length text ≤ 2 ^ 30
  pub deep : length context.brackets ≤ most
  pub count : number + length (chars rest) ≤ length text
