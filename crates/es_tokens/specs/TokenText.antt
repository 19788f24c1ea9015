-- The texts of tokens (this project; strings by ECMA-262 12.9.4).
use Rattle.std.specs.Prelude.{ℕ, ◌≡◌, ◌⊎◌, List, [], ◌∷◌, ◌++◌, slice_range}
use Rattle.std.specs.Str.{IsUtf8}
use Rattle.es_tokens.specs.declared.token.Token.{Token}

-- the bytes of a token's span
abbrev pub token_bytes : List ℕ → Token → List ℕ
token_bytes text token = slice_range text token.span.start token.span.end

-- the same quote on both sides of these bytes, which are UTF-8
pub record IsQuoted (bytes : List ℕ) : Type 0 where
  pub quote : ℕ
  pub inner : List ℕ
  pub parts : bytes ≡ quote ∷ inner ++ quote ∷ []
  pub is_quote : (quote ≡ 0x22) ⊎ (quote ≡ 0x27)
  pub utf8 : IsUtf8 inner
