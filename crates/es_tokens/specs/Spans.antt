-- Where tokens stand in a text (this project; gaps and line terminators by ECMA-262 12.2 to 12.5).
use Rattle.std.specs.Prelude.{ℕ, ◌≡◌, ◌<◌, ◌≤◌, ◌==◌, true, List, [], ◌∷◌, ◌++◌, if◌then◌else◌, length, slice_range}
use Rattle.std.specs.Str.{chars, encode_utf8_all}
use Rattle.es_tokens.specs.Characters.{holds_terminator, is_terminator}
use Rattle.es_tokens.specs.GapShape.{gap, first_gap}
use Rattle.es_tokens.specs.Language.{HasShape}
use Rattle.es_tokens.specs.declared.token.Token.{Token}

-- each token meets a condition with the place where the one before ends, and so does the place where the last one ends
abbrev pub EachBehind : (ℕ → Token → Type 0) → (ℕ → Type 0) → ℕ → List Token → Type 0
EachBehind Meets Last from [] = Last from
EachBehind Meets Last from (token ∷ tokens) = Meets from token × EachBehind Meets Last token.span.end tokens

-- no span is empty, none begins before another ends, and all lie in the text
abbrev pub AreInOrder : List ℕ → List Token → Type 0
AreInOrder text tokens =
    EachBehind (λ from token. (from ≤ token.span.start) × (token.span.start < token.span.end)) (λ from. from ≤ length text) 0 tokens

-- the characters between two places
abbrev pub chars_between : List ℕ → ℕ → ℕ → List ℕ
chars_between text from to = chars (slice_range text from to)

-- white space, line terminators and comments; at the start of the text a `#!` line too
abbrev pub IsGap : List ℕ → ℕ → ℕ → Type 0
IsGap text from to = HasShape (if from == 0 then first_gap else gap) (chars_between text from to)

-- outside the spans there is only gap
abbrev pub GapsBetween : List ℕ → List Token → Type 0
GapsBetween text tokens = EachBehind (λ from token. IsGap text from token.span.start) (λ from. IsGap text from (length text)) 0 tokens

-- a token is on a new line where a line terminator stands in the gap before it
abbrev pub NewLinesByGaps : List ℕ → List Token → Type 0
NewLinesByGaps text tokens =
    EachBehind (λ from token. token.new_line ≡ holds_terminator (chars_between text from token.span.start)) (λ from. Unit {0}) 0 tokens

-- the text has a line that ends, with its terminator, at a place or before it
pub record EndsLineBefore (text : List ℕ) (place : ℕ) : Type 0 where
  pub line : List ℕ
  pub terminator : ℕ
  pub rest : List ℕ
  pub parts : text ≡ encode_utf8_all (line ++ terminator ∷ []) ++ rest
  pub is_end : is_terminator terminator ≡ true
  pub before : length (encode_utf8_all (line ++ terminator ∷ [])) ≤ place
