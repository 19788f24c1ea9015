-- Parts of templates (ECMA-262 12.9.6): a backslash takes the next character, and the first backquote or `${` ends the part.
use Rattle.std.specs.Prelude.{not, ◌==◌, ◌&&◌}
use Rattle.es_tokens.specs.Characters.{is_template_char}
use Rattle.es_tokens.specs.QuotedShape.{any_char}
use Rattle.es_tokens.specs.Shape.{Shape, one, seq, alt, many, char}

abbrev pub dollars : Shape
dollars = many (char 0x24)

abbrev pub template_escape : Shape
template_escape = seq (char 0x5c) any_char

-- what keeps a `$` from being that of `${`
abbrev pub after_dollars : Shape
after_dollars = alt (one (λ c. is_template_char c && not (c == 0x7b))) template_escape

abbrev pub template_part : Shape
template_part = alt (alt (one is_template_char) template_escape) (seq (seq (char 0x24) dollars) after_dollars)

-- a backquote or `${`, and the `$`s before it
abbrev pub template_end : Shape
template_end = seq dollars (alt (char 0x60) (seq (char 0x24) (char 0x7b)))

abbrev pub template_rest : Shape
template_rest = seq (many template_part) template_end

-- from the backquote on
abbrev pub template_begun : Shape
template_begun = seq (char 0x60) template_rest

-- from the closing brace on
abbrev pub template_resumed : Shape
template_resumed = seq (char 0x7d) template_rest
