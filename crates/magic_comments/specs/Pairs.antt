-- The pairs of a magic comment, as tokens (webpack docs, "Magic Comments"; the grammar is this project's).
use Rattle.std.specs.Prelude.{ℕ, Bool, false, not, ◌&&◌, ◌||◌, ◌==◌, List, [], ◌∷◌, codes, slice_range, drop}
use Rattle.std.specs.Char.{is_ascii_alphabetic, is_ascii_digit}
use Rattle.std.specs.List.{list_all, list_any, slice_split}
use Rattle.std.specs.Str.{bytes_eq}
use Rattle.es_tokens.specs.declared.token.Token.{Token}
use Rattle.es_tokens.specs.declared.token.TokenClass.{TokenClass}
use Rattle.es_tokens.specs.declared.token.TokenClass.TheVariants as class
use Rattle.form_shapes.specs.Source.{has_sign, text_of}
use Rattle.form_shapes.specs.Sign.{is_plain}
use Rattle.form_shapes.specs.declared.sign.Sign.TheVariants as sign

-- a word of ASCII letters
abbrev pub is_key : List ℕ → Token → Bool
is_key content token = has_sign content sign.IdName token && list_all is_ascii_alphabetic (text_of content token)

abbrev pub is_colon : List ℕ → Token → Bool
is_colon content token = has_sign content sign.Colon token

abbrev pub is_comma : List ℕ → Token → Bool
is_comma content token = has_sign content sign.Comma token

-- a string without a backslash, `true`, `false` or ASCII digits
abbrev pub is_value_of : TokenClass → List ℕ → Bool
is_value_of class.Str bytes = is_plain bytes
is_value_of class.Keyword bytes = bytes_eq bytes (codes "true") || bytes_eq bytes (codes "false")
is_value_of class.Number bytes = list_all is_ascii_digit bytes
is_value_of _ bytes = false

abbrev pub is_value : List ℕ → Token → Bool
is_value content token = is_value_of token.class (text_of content token)

-- a key, a colon and a value
abbrev pub is_pair : List ℕ → List Token → Bool
is_pair content (key ∷ colon ∷ value ∷ []) = is_key content key && (is_colon content colon && is_value content value)
is_pair content _ = false

-- the parts of a comment between commas
abbrev pub pairs : List ℕ → List Token → List (List Token)
pairs content tokens = slice_split (is_comma content) tokens

-- a gap without a comment: of all that a gap has only a comment has a `/` or a `#`
abbrev pub is_clean : List ℕ → Bool
is_clean bytes = not (list_any (λ byte. byte == 0x2f) bytes || list_any (λ byte. byte == 0x23) bytes)

-- no comment stands in the gaps between tokens from an offset on
abbrev pub are_apart : List ℕ → ℕ → List Token → Bool
are_apart content from [] = is_clean (drop from content)
are_apart content from (token ∷ tokens) = is_clean (slice_range content from token.span.start) && are_apart content token.span.end tokens

-- one or more pairs, separated by one comma each, and no comment in them
abbrev pub are_pairs : List ℕ → List Token → Bool
are_pairs content tokens = list_all (is_pair content) (pairs content tokens) && are_apart content 0 tokens
