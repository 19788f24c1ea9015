-- The open brackets behind tokens, of which the last one is first (this project).
use Rattle.std.specs.Prelude.{ℕ, List, [], ◌∷◌, drop}
use Rattle.es_tokens.specs.TokenRole.{role_in}
use Rattle.es_tokens.specs.declared.role.Role.{Role}
use Rattle.es_tokens.specs.declared.role.Role.TheVariants.{Open, Close}
use Rattle.es_tokens.specs.declared.token.LexToken.{LexToken}

-- the brackets left open by a token
abbrev pub opens_after : Role → List LexToken → List (List LexToken) → List (List LexToken)
opens_after (Open bracket) tokens outer = tokens ∷ outer
opens_after (Close bracket) tokens outer = drop 1 outer
opens_after _ tokens outer = outer

-- the open brackets, the innermost first, each as the tokens up to it
abbrev pub opens : List ℕ → List LexToken → List (List LexToken)
opens text [] = []
opens text (token ∷ before) = opens_after (role_in text token) (token ∷ before) (opens text before)
