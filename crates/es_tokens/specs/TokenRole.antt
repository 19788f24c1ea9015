-- What a token is to the tokens behind it (this project).
use Rattle.std.specs.Prelude.{ℕ, List, slice_range, unwrap_or}
use Rattle.es_tokens.specs.KeywordRole.{keyword_role}
use Rattle.es_tokens.specs.PunctuatorRole.{punctuator_role}
use Rattle.es_tokens.specs.declared.role.Bracket.TheVariants.{Template}
use Rattle.es_tokens.specs.declared.role.Role.{Role}
use Rattle.es_tokens.specs.declared.role.Role.TheVariants.{Value, Open, Close, Operator}
use Rattle.es_tokens.specs.declared.token.TokenClass.{TokenClass}
use Rattle.es_tokens.specs.declared.token.TokenClass.TheVariants as class
use Rattle.es_tokens.specs.declared.token.LexToken.{LexToken}

-- the bytes of a token
abbrev pub bytes_of : List ℕ → LexToken → List ℕ
bytes_of text token = slice_range text token.span.start token.span.end

-- what a token of a class, with these bytes, is to the tokens behind it
abbrev pub role_of : TokenClass → List ℕ → Role
role_of class.Keyword bytes = unwrap_or (keyword_role bytes) Value
role_of class.Punct bytes = punctuator_role bytes
role_of class.Head bytes = Open Template
role_of class.Middle bytes = Operator
role_of class.Tail bytes = Close Template
role_of class.Name bytes = Value
role_of class.PrivateName bytes = Value
role_of class.Number bytes = Value
role_of class.Str bytes = Value
role_of class.Template bytes = Value
role_of class.Regex bytes = Value

unfoldable pub role_in : List ℕ → LexToken → Role
role_in text token = role_of token.class (bytes_of text token)
