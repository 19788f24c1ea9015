-- Names: identifiers with escapes, and private names (ECMA-262 12.7; an escape is tested for its value alone).
use Rattle.std.specs.Prelude.{ℕ, Bool, ◌==◌, ◌&&◌, not}
use Rattle.es_tokens.specs.Characters.{is_name_start, is_name_part, is_hex}
use Rattle.es_tokens.specs.Shape.{Shape, empty, one, seq, alt, many, char}

abbrev pub hex : Shape
hex = one is_hex

-- exactly two, three and four hexadecimal digits
abbrev pub hex2 : Shape
hex2 = seq hex hex

abbrev pub hex3 : Shape
hex3 = seq hex hex2

abbrev pub hex4 : Shape
hex4 = seq hex hex3

-- at most one to four
abbrev pub upto1 : Shape
upto1 = alt empty hex

abbrev pub upto2 : Shape
upto2 = alt empty (seq hex upto1)

abbrev pub upto3 : Shape
upto3 = alt empty (seq hex upto2)

abbrev pub upto4 : Shape
upto4 = alt empty (seq hex upto3)

-- one to six digits of a value of at most 10FFFF, of which the first isn't 0: up to five digits, or `10` and four more
abbrev pub is_lead : ℕ → Bool
is_lead c = is_hex c && not (c == 0x30)

abbrev pub lead : Shape
lead = alt (seq (one is_lead) upto4) (seq (char 0x31) (seq (char 0x30) hex4))

abbrev pub zeros : Shape
zeros = many (char 0x30)

-- one or more hexadecimal digits of a value of at most 10FFFF
abbrev pub value : Shape
value = alt (seq (char 0x30) zeros) (seq zeros lead)

-- `\u` with four digits, or with a value in braces
abbrev pub escape_kind : Shape
escape_kind = alt hex4 (seq (char 0x7b) (seq value (char 0x7d)))

abbrev pub escape : Shape
escape = seq (char 0x5c) (seq (char 0x75) escape_kind)

abbrev pub name_rest : Shape
name_rest = many (alt (one is_name_part) escape)

-- a name or a keyword
abbrev pub name : Shape
name = seq (alt (one is_name_start) escape) name_rest

-- `#` and a name
abbrev pub private_name : Shape
private_name = seq (char 0x23) name
