-- The list of tokens of a text, as a relation (this project).
use Rattle.std.specs.Prelude.{ℕ, ◌≡◌, List, [], ◌∷◌}
use Rattle.std.specs.Str.{chars, IsUtf8}
use Rattle.es_tokens.specs.Context.{context_of}
use Rattle.es_tokens.specs.Step.{ends, token, step}
use Rattle.es_tokens.specs.Mated.{mated}
use Rattle.es_tokens.specs.declared.token.Token.{Token}
use Rattle.es_tokens.specs.declared.token.LexToken.{LexToken}

-- with at most so many open brackets each of these tokens, the last one first, is the step's answer on those before it, and these characters are left
abbrev pub Leads : ℕ → List ℕ → List LexToken → List ℕ → Type 0
Leads most text [] rest = rest ≡ chars text
Leads most text (found ∷ before) rest =
    (left : List ℕ) × Leads most text before left × (step most text (context_of text before) left ≡ token found rest)

-- the text is UTF-8, and behind the last token the step answers none
pub record AreLexed (most : ℕ) (text : List ℕ) (found : List LexToken) : Type 0 where
  pub utf8 : IsUtf8 text
  pub rest : List ℕ
  pub leads : Leads most text found rest
  pub last : step most text (context_of text found) rest ≡ ends

-- these are the tokens of the text, with their mates
abbrev pub AreTokens : List ℕ → List Token → Type 0
AreTokens text tokens = (found : List LexToken) × AreLexed 4096 text found × (tokens ≡ mated text found)
