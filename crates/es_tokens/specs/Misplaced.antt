-- A bracket that is one too many, or a closer that doesn't fit (this project).
use Rattle.std.specs.Prelude.{ℕ, Bool, true, false, nat_lt, List, [], ◌∷◌, Option, None, Some, length, if◌then◌else◌}
use Rattle.es_tokens.specs.declared.role.Bracket.{Bracket}
use Rattle.es_tokens.specs.declared.role.Bracket.TheVariants.{Round, Square, Curly, Template}
use Rattle.es_tokens.specs.declared.role.Role.{Role}
use Rattle.es_tokens.specs.declared.role.Role.TheVariants.{Open, Close}
use Rattle.es_tokens.specs.declared.context.Opened.{Opened}
use Rattle.es_tokens.specs.declared.token.TokenKind.{TokenKind}
use Rattle.es_tokens.specs.declared.token.TokenKind.TheVariants as kind

abbrev pub same_bracket : Bracket → Bracket → Bool
same_bracket Round Round = true
same_bracket Square Square = true
same_bracket Curly Curly = true
same_bracket Template Template = true
same_bracket _ _ = false

-- the innermost open bracket is of this kind
abbrev pub closes : Bracket → List Opened → Bool
closes bracket [] = false
closes bracket (opened ∷ outer) = same_bracket bracket opened.bracket

-- what is wrong with a bracket: one too many, or a closer that doesn't fit
abbrev pub misplaced : ℕ → List Opened → Role → Option TokenKind
misplaced most brackets (Open bracket) = if nat_lt (length brackets) most then None else Some kind.Depth
misplaced most brackets (Close bracket) = if closes bracket brackets then None else Some kind.Unmatched
misplaced most brackets _ = None
