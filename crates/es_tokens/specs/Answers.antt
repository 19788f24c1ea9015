-- The tokens of a text one by one, and then its first fault (this project).
use Rattle.std.specs.Prelude.{ℕ, zero, suc, List, [], ◌∷◌, length, Result, Ok, Err, if◌then◌else◌}
use Rattle.std.specs.Str.{chars, is_utf8}
use Rattle.std.specs.Str.Lossy.{utf8_valid_len}
use Rattle.es_tokens.specs.Context.{context_of}
use Rattle.es_tokens.specs.Step.{Next, ends, token, fails, step}
use Rattle.es_tokens.specs.declared.token.LexToken.{LexToken}
use Rattle.es_tokens.specs.declared.token.TokenFault.{TokenFault}
use Rattle.es_tokens.specs.declared.token.TokenKind.TheVariants.{NotUtf8}

-- a step's answer, and those on what it leaves
abbrev pub and_more : Next → (LexToken → List ℕ → List (Result LexToken TokenFault)) → List (Result LexToken TokenFault)
and_more ends on = []
and_more (token found rest) on = Ok found ∷ on found rest
and_more (fails fault) on = Err fault ∷ []

-- behind tokens, the last one first, after at most so many steps
abbrev pub answers_behind : ℕ → List ℕ → ℕ → List LexToken → List ℕ → List (Result LexToken TokenFault)
answers_behind most text zero before rest = []
answers_behind most text (suc steps) before rest =
    and_more (step most text (context_of text before) rest) (λ found left. answers_behind most text steps (found ∷ before) left)

-- the tokens of a text with at most so many open brackets, and then its first fault, where there is one
unfoldable pub answers_of : ℕ → List ℕ → List (Result LexToken TokenFault)
answers_of most text =
    if is_utf8 text then answers_behind most text (suc (length (chars text))) [] (chars text)
    else Err (record { offset = utf8_valid_len text; kind = NotUtf8 }) ∷ []
