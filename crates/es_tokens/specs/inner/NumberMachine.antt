-- What may still come in each state of the machine of numbers.
use Rattle.es_tokens.specs.Characters.{is_digit, is_number_part}
use Rattle.es_tokens.specs.Shape.{Shape, empty, one, seq, alt, many}
use Rattle.es_tokens.specs.NumberShape.{number_rest, decimal, non_decimal}
use Rattle.std.specs.Prelude.{◌==◌, ◌||◌}
use Rattle.es_tokens.specs.declared.number.Number.{Number}
use Rattle.es_tokens.specs.declared.number.Number.TheVariants.{Decimal, Point, Rest, Exponent, NonDecimal, Digits}

abbrev pub number_left : Number → Shape
number_left Decimal = decimal
number_left Point = seq (one is_digit) number_rest
number_left Rest = number_rest
number_left Exponent = seq (alt (one (λ c. c == 0x2b || c == 0x2d)) empty) number_rest
number_left NonDecimal = non_decimal
number_left Digits = many (one is_number_part)
