-- Regular expressions (ECMA-262 12.9.5; flags by XID continue).
use Rattle.std.specs.Prelude.{not, ◌==◌, ◌&&◌}
use Rattle.es_tokens.specs.Characters.{is_terminator, is_regex_char, is_class_char, is_flag}
use Rattle.es_tokens.specs.Shape.{Shape, one, seq, alt, many, char}

abbrev pub line_char : Shape
line_char = one (λ c. not (is_terminator c))

abbrev pub regex_escape : Shape
regex_escape = seq (char 0x5c) line_char

abbrev pub class_part : Shape
class_part = alt (one is_class_char) regex_escape

-- `[` up to `]`, in which `/` doesn't end the whole
abbrev pub regex_class : Shape
regex_class = seq (char 0x5b) (seq (many class_part) (char 0x5d))

abbrev pub regex_part : Shape
regex_part = alt (one is_regex_char) (alt regex_escape regex_class)

-- not `*`, with which a comment begins
abbrev pub regex_first : Shape
regex_first = alt (one (λ c. is_regex_char c && not (c == 0x2a))) (alt regex_escape regex_class)

abbrev pub regex_end : Shape
regex_end = seq (char 0x2f) (many (one is_flag))

abbrev pub regex : Shape
regex = seq (char 0x2f) (seq (seq regex_first (many regex_part)) regex_end)
