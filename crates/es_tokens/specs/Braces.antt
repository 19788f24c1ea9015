-- A brace and the brace that closes it (this project).
use Rattle.std.specs.Prelude.{ℕ, ◌≡◌, ◌<◌, List, Some, codes, slice_get}
use Rattle.es_tokens.specs.TokenText.{token_bytes}
use Rattle.es_tokens.specs.declared.token.Token.{Token}
use Rattle.es_tokens.specs.declared.token.TokenClass.TheVariants.{Punct}

-- a punctuator with these bytes
abbrev pub IsPunctuator : List ℕ → Token → List ℕ → Type 0
IsPunctuator text token mark = (token.class ≡ Punct) × (token_bytes text token ≡ mark)

-- the mate of the brace of a number is a closing brace behind it
pub record IsClosedBrace (text : List ℕ) (tokens : List Token) (at : ℕ) (brace : Token) : Type 0 where
  pub last : Token
  pub behind : at < brace.mate
  pub there : slice_get tokens brace.mate ≡ Some last
  pub closes : IsPunctuator text last (codes "}")
