-- What is read of a text's tokens. Tokens go by number; a number that no token has has no sign (this project).
use Rattle.std.specs.Prelude.{ℕ, Bool, true, false, ◌+◌, ◌==◌, ◌||◌, List, [], slice_get, slice_range}
use Rattle.std.specs.Option.{option_map_or}
use Rattle.es_tokens.specs.declared.token.Token.{Token}
use Rattle.es_tokens.specs.declared.token.TokenClass.{TokenClass}
use Rattle.es_tokens.specs.declared.token.TokenClass.TheVariants as class
use Rattle.form_shapes.specs.Sign.{has_sign_of, is_that_punct}
use Rattle.form_shapes.specs.declared.sign.Sign.{Sign}
use Rattle.std.specs.Prelude.{codes}

-- the bytes of a token
abbrev pub text_of : List ℕ → Token → List ℕ
text_of text token = slice_range text token.span.start token.span.end

abbrev pub has_sign : List ℕ → Sign → Token → Bool
has_sign text sign token = has_sign_of sign token.class (text_of text token)

-- the token of this number has the sign
abbrev pub is_at : List ℕ → List Token → Sign → ℕ → Bool
is_at text tokens sign at = option_map_or (has_sign text sign) (slice_get tokens at) false

abbrev pub mate_at : List Token → ℕ → ℕ
mate_at tokens at = option_map_or (λ token. token.mate) (slice_get tokens at) 0

-- the offsets at which a token begins and ends, and its bytes; of no token 0 and none
abbrev pub start_at : List Token → ℕ → ℕ
start_at tokens at = option_map_or (λ token. token.span.start) (slice_get tokens at) 0

abbrev pub end_at : List Token → ℕ → ℕ
end_at tokens at = option_map_or (λ token. token.span.end) (slice_get tokens at) 0

abbrev pub text_at : List ℕ → List Token → ℕ → List ℕ
text_at text tokens at = option_map_or (text_of text) (slice_get tokens at) []

-- the token stands outside of all brackets
abbrev pub is_outside : List Token → ℕ → Bool
is_outside tokens at = option_map_or (λ token. token.depth == 0) (slice_get tokens at) false

-- the tokens between a bracket and its mate
abbrev pub inside : List Token → ℕ → List Token
inside tokens at = slice_range tokens (at + 1) (mate_at tokens at)

-- a bracket, also one of a template
abbrev pub is_bracket_of : TokenClass → List ℕ → Bool
is_bracket_of class.Head bytes = true
is_bracket_of class.Tail bytes = true
is_bracket_of of bytes =
    is_that_punct of bytes (codes "(") || is_that_punct of bytes (codes ")") || is_that_punct of bytes (codes "[")
    || is_that_punct of bytes (codes "]") || is_that_punct of bytes (codes "{") || is_that_punct of bytes (codes "}")

abbrev pub is_bracket : List ℕ → Token → Bool
is_bracket text token = is_bracket_of token.class (text_of text token)
