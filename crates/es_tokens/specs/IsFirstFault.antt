-- The first fault of a text, as a relation (this project).
use Rattle.std.specs.Prelude.{ℕ, ◌≡◌, ◌⊎◌, List}
use Rattle.std.specs.Str.{IsUtf8}
use Rattle.std.specs.Str.Lossy.{utf8_valid_len}
use Rattle.es_tokens.specs.AreTokens.{Leads}
use Rattle.es_tokens.specs.Context.{context_of}
use Rattle.es_tokens.specs.Step.{fails, step}
use Rattle.es_tokens.specs.declared.token.LexToken.{LexToken}
use Rattle.es_tokens.specs.declared.token.TokenFault.{TokenFault}
use Rattle.es_tokens.specs.declared.token.TokenKind.TheVariants.{NotUtf8}

-- the step fails behind the tokens before it
pub record FailsBehind (most : ℕ) (text : List ℕ) (fault : TokenFault) : Type 0 where
  pub utf8 : IsUtf8 text
  pub found : List LexToken
  pub rest : List ℕ
  pub leads : Leads most text found rest
  pub last : step most text (context_of text found) rest ≡ fails fault

-- this is the first fault of the text; that the text isn't UTF-8 comes before all others
abbrev pub IsFirstFault : List ℕ → TokenFault → Type 0
IsFirstFault text fault =
    (¬ (IsUtf8 text) × (fault ≡ record { offset = utf8_valid_len text; kind = NotUtf8 })) ⊎ FailsBehind 4096 text fault
