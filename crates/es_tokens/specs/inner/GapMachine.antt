-- What may still come in each state of the machine of gaps.
use Rattle.es_tokens.specs.Characters.{is_terminator}
use Rattle.es_tokens.specs.Shape.{Shape, any_text, one, seq, alt, many, other, char}
use Rattle.es_tokens.specs.RegexShape.{line_char}
use Rattle.es_tokens.specs.GapShape.{comment_end, holds_end, gap_part, gap_end, gap, hashbang_rest, first_gap}
use Rattle.es_tokens.specs.declared.gap.Gap.{Gap}
use Rattle.es_tokens.specs.declared.gap.Gap.TheVariants.{First, Hash, Hashbang, Between, Slash, Line, Block, Star}

-- a comment's rest, and what may come behind it
abbrev and_gap : Shape → Shape
and_gap comment = seq (seq comment (many gap_part)) gap_end

abbrev pub gap_left : Gap → Shape
gap_left First = first_gap
gap_left Hash = seq (char 0x21) hashbang_rest
gap_left Hashbang = hashbang_rest
gap_left Between = gap
gap_left Slash =
    alt (and_gap (alt (seq (char 0x2f) (seq (many line_char) (one is_terminator))) (seq (char 0x2a) (seq (other holds_end) comment_end))))
    (seq (char 0x2f) (many line_char))
gap_left Line = alt (and_gap (seq (many line_char) (one is_terminator))) (many line_char)
gap_left Block = and_gap (seq (other holds_end) comment_end)
gap_left Star = and_gap (alt (seq (other (alt holds_end (seq (char 0x2f) any_text))) comment_end) (char 0x2f))
