-- The tokens of a text: each is the step's answer on the tokens before it (this project).
use Rattle.std.specs.Prelude.{ℕ, suc, zero, ◌≡◌, List, [], ◌∷◌, length, Result, Ok, Err, if◌then◌else◌}
use Rattle.std.specs.Str.{chars, is_utf8}
use Rattle.std.specs.Str.Lossy.{utf8_valid_len}
use Rattle.es_tokens.specs.Context.{context_of}
use Rattle.es_tokens.specs.Step.{Next, ends, token, fails, step}
use Rattle.es_tokens.specs.Mated.{mated}
use Rattle.es_tokens.specs.declared.token.Token.{Token}
use Rattle.es_tokens.specs.declared.token.LexToken.{LexToken}
use Rattle.es_tokens.specs.declared.token.TokenFault.{TokenFault}
use Rattle.es_tokens.specs.declared.token.TokenKind.TheVariants.{NotUtf8}
use Rattle.es_tokens.specs.declared.token.TokenEnd.{TokenEnd}
use Rattle.es_tokens.specs.declared.token.TokenEnd.TheVariants.{Fault, NoMemory}

-- what a step's answer leads to
abbrev pub follow : Next → List LexToken → (LexToken → List ℕ → Result (List LexToken) TokenFault) → Result (List LexToken) TokenFault
follow ends before on = Ok before
follow (token found rest) before on = on found rest
follow (fails fault) before on = Err fault

-- the tokens, the last one first, or the fault, after at most so many steps
abbrev pub run : ℕ → List ℕ → ℕ → List LexToken → List ℕ → Result (List LexToken) TokenFault
run most text zero before rest = Ok before
run most text (suc steps) before rest =
    follow (step most text (context_of text before) rest) before (λ found left. run most text steps (found ∷ before) left)

-- a step takes a character at least
unfoldable pub all_of : ℕ → List ℕ → Result (List LexToken) TokenFault
all_of most text = run most text (suc (length (chars text))) [] (chars text)

abbrev pub mated_or_fault : List ℕ → Result (List LexToken) TokenFault → Result (List Token) TokenFault
mated_or_fault text (Ok found) = Ok (mated text found)
mated_or_fault text (Err fault) = Err fault

-- the tokens of a text, or its first fault
unfoldable pub tokens_of : List ℕ → Result (List Token) TokenFault
tokens_of text =
    if is_utf8 text then mated_or_fault text (all_of 4096 text)
    else Err (record { offset = utf8_valid_len text; kind = NotUtf8 })

-- where this is told, the end is the fault, unless memory ran out
abbrev pub EndsBy : Result (List Token) TokenFault → TokenEnd → Type 0
EndsBy told NoMemory = Unit {0}
EndsBy told (Fault fault) = told ≡ Err fault
