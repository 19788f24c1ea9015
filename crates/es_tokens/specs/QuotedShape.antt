-- Strings (ECMA-262 12.9.4; an escape isn't tested for what it stands for).
use Rattle.std.specs.Prelude.{ℕ, true, not, ◌==◌, ◌&&◌}
use Rattle.es_tokens.specs.Characters.{is_string_char}
use Rattle.es_tokens.specs.declared.quoted.Quote.{Quote}
use Rattle.es_tokens.specs.declared.quoted.Quote.TheVariants.{Single, Double}
use Rattle.es_tokens.specs.Shape.{Shape, one, seq, alt, many, char}

abbrev pub quote_char : Quote → ℕ
quote_char Single = 0x27
quote_char Double = 0x22

abbrev pub any_char : Shape
any_char = one (λ c. true)

-- what a backslash takes: CR LF as one, or any character
abbrev pub after_backslash : Shape
after_backslash = alt (seq (char 0x0d) (char 0x0a)) any_char

-- the characters between two such quotes
abbrev pub quoted_part : ℕ → Shape
quoted_part quote = alt (one (λ c. is_string_char c && not (c == quote))) (seq (char 0x5c) after_backslash)

abbrev pub string_shape : ℕ → Shape
string_shape quote = seq (char quote) (seq (many (quoted_part quote)) (char quote))
