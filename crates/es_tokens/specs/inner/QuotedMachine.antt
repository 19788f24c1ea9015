-- What may still come in each state of the machine of strings.
use Rattle.es_tokens.specs.Shape.{Shape, empty, seq, alt, many, char}
use Rattle.es_tokens.specs.QuotedShape.{quote_char, after_backslash, quoted_part, string_shape}
use Rattle.es_tokens.specs.declared.quoted.Quoted.{Quoted}
use Rattle.es_tokens.specs.declared.quoted.Quoted.TheVariants.{Open, Body, Backslash, Return, Closed}

abbrev pub quoted_left : Quoted → Shape
quoted_left (Open quote) = string_shape (quote_char quote)
quoted_left (Body quote) = seq (many (quoted_part (quote_char quote))) (char (quote_char quote))
quoted_left (Backslash quote) = seq (seq after_backslash (many (quoted_part (quote_char quote)))) (char (quote_char quote))
quoted_left (Return quote) = seq (seq (alt (char 0x0a) empty) (many (quoted_part (quote_char quote)))) (char (quote_char quote))
quoted_left Closed = empty
