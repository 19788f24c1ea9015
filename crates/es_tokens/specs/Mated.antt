-- Tokens with their mates (this project).
use Rattle.std.specs.Prelude.{ℕ, suc, zero, List, [], ◌∷◌, ◌++◌, length}
use Rattle.es_tokens.specs.Context.{context_of}
use Rattle.es_tokens.specs.TokenRole.{role_in}
use Rattle.es_tokens.specs.declared.role.Role.{Role}
use Rattle.es_tokens.specs.declared.role.Role.TheVariants.{Close}
use Rattle.es_tokens.specs.declared.context.Opened.{Opened}
use Rattle.es_tokens.specs.declared.token.Token.{Token}
use Rattle.es_tokens.specs.declared.token.LexToken.{LexToken}

-- the number of a closer's opener, and of any other token its own
abbrev pub mate_by : Role → ℕ → List Opened → ℕ
mate_by (Close bracket) at [] = at
mate_by (Close bracket) at (opened ∷ outer) = opened.at
mate_by _ at brackets = at

abbrev pub mated_token : LexToken → ℕ → Token
mated_token found mate = record { class = found.class; span = found.span; new_line = found.new_line; depth = found.depth; mate = mate }

-- the token of this number gets this mate, where it is there
abbrev pub with_mate : List Token → ℕ → ℕ → List Token
with_mate [] number mate = []
with_mate (first ∷ tokens) zero mate = record first { mate = mate } ∷ tokens
with_mate (first ∷ tokens) (suc number) mate = first ∷ with_mate tokens number mate

-- tokens in the order of the text, each with its mate so far: an opener's is itself until its closer comes
abbrev pub mated : List ℕ → List LexToken → List Token
mated text [] = []
mated text (found ∷ before) =
    let mate = mate_by (role_in text found) (length before) (context_of text before).brackets in
    with_mate (mated text before) mate (length before) ++ mated_token found mate ∷ []
