-- Numbers, wider than those of ECMA-262 12.9.3 (this project).
use Rattle.std.specs.Prelude.{ℕ, Bool, ◌==◌, ◌||◌}
use Rattle.es_tokens.specs.Characters.{is_digit, is_number_part}
use Rattle.es_tokens.specs.Shape.{Shape, one, seq, alt, many, char}

-- `e` and a sign, in either case
abbrev pub exponent : Shape
exponent = seq (one (λ c. c == 0x65 || c == 0x45)) (one (λ c. c == 0x2b || c == 0x2d))

abbrev pub number_rest : Shape
number_rest = many (alt exponent (one is_number_part))

-- a digit, or `.` and a digit; then any parts, and signs of exponents
abbrev pub decimal : Shape
decimal = seq (alt (one is_digit) (seq (char 0x2e) (one is_digit))) number_rest

-- `b`, `o` or `x`, in either case
abbrev pub is_radix_letter : ℕ → Bool
is_radix_letter c = c == 0x78 || c == 0x58 || c == 0x62 || c == 0x42 || c == 0x6f || c == 0x4f

-- a number in hexadecimal, binary or octal digits has no exponent
abbrev pub non_decimal : Shape
non_decimal = seq (char 0x30) (many (one is_number_part))
