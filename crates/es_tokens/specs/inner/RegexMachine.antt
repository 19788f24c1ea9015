-- What may still come in each state of the machine of regular expressions.
use Rattle.es_tokens.specs.Characters.{is_flag}
use Rattle.es_tokens.specs.Shape.{Shape, one, seq, many, char}
use Rattle.es_tokens.specs.RegexShape.{line_char, class_part, regex_part, regex_first, regex_end, regex}
use Rattle.es_tokens.specs.declared.regex.Regex.{Regex}
use Rattle.es_tokens.specs.declared.regex.Regex.TheVariants.{Open, First, Body, Backslash, Class, ClassBackslash, Flags}

abbrev pub class_left : Shape
class_left = seq (many class_part) (char 0x5d)

abbrev pub regex_left : Regex → Shape
regex_left Open = regex
regex_left First = seq (seq regex_first (many regex_part)) regex_end
regex_left Body = seq (many regex_part) regex_end
regex_left Backslash = seq (seq line_char (many regex_part)) regex_end
regex_left Class = seq (seq class_left (many regex_part)) regex_end
regex_left ClassBackslash = seq (seq (seq (seq line_char (many class_part)) (char 0x5d)) (many regex_part)) regex_end
regex_left Flags = many (one is_flag)
