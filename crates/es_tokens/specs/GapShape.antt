-- Gaps between tokens: white space, line terminators and comments (ECMA-262 12.2 to 12.5).
use Rattle.es_tokens.specs.Characters.{is_blank, is_terminator}
use Rattle.es_tokens.specs.Shape.{Shape, empty, any_text, one, seq, alt, many, other, char}
use Rattle.es_tokens.specs.RegexShape.{line_char}

-- `//` and the rest of the line
abbrev pub line_comment : Shape
line_comment = seq (char 0x2f) (seq (char 0x2f) (many line_char))

-- the same with the line's terminator
abbrev pub ended_line_comment : Shape
ended_line_comment = seq (char 0x2f) (seq (char 0x2f) (seq (many line_char) (one is_terminator)))

abbrev pub comment_end : Shape
comment_end = seq (char 0x2a) (char 0x2f)

abbrev pub holds_end : Shape
holds_end = seq any_text (seq comment_end any_text)

-- `/*`, a text without `*/`, and `*/`
abbrev pub block_comment : Shape
block_comment = seq (char 0x2f) (seq (char 0x2a) (seq (other holds_end) comment_end))

abbrev pub gap_part : Shape
gap_part = alt (one is_blank) (alt ended_line_comment block_comment)

-- a last line may have no terminator
abbrev pub gap_end : Shape
gap_end = alt empty line_comment

abbrev pub gap : Shape
gap = seq (many gap_part) gap_end

-- `#!`, the rest of the line, and a gap
abbrev pub hashbang_rest : Shape
hashbang_rest = seq (many line_char) (alt empty (seq (one is_terminator) gap))

-- a gap at the start of the text
abbrev pub first_gap : Shape
first_gap = alt gap (seq (char 0x23) (seq (char 0x21) hashbang_rest))
