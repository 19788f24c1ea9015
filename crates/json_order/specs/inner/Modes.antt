-- What the reader waits for. Private clauses alone cite this file.
use Rattle.std.specs.Prelude.{ℕ, ◌+◌, ◌*◌, Bool, true, false, Option, Some, None, Result, Ok, Err, if◌then◌else◌, ◌==◌, ◌||◌, option_map}
use Rattle.std.specs.Char.{is_ascii_digit}
use Rattle.json_order.specs.declared.tree.JsonNode.{JsonNode}
use Rattle.json_order.specs.declared.tree.JsonNode.TheVariants as node
use Rattle.json_order.specs.declared.mode.Mode.{Mode}
use Rattle.json_order.specs.declared.mode.Mode.TheVariants as mode
use Rattle.json_order.specs.declared.mode.Part.{Part}
use Rattle.json_order.specs.declared.mode.Part.TheVariants as part
use Rattle.json_order.specs.declared.mode.Letters.{Letters}
use Rattle.json_order.specs.declared.mode.Letters.TheVariants as letters
use Rattle.json_order.specs.declared.mode.Digits.{Digits}
use Rattle.json_order.specs.declared.mode.Digits.TheVariants as digits
use Rattle.json_order.specs.Grammar.{tails_of}

abbrev pub digit : ℕ → Part → Option Part
digit byte p = if is_ascii_digit byte then Some p else None

abbrev pub or_else : Option Part → Option Part → Option Part
or_else (Some p) other = Some p
or_else None other = other

abbrev pub first_digit : ℕ → Option Part
first_digit byte = if byte == 48 then Some part.Zero else digit byte part.Integer

abbrev pub first_part : ℕ → Option Part
first_part byte = if byte == 45 then Some part.Minus else first_digit byte

abbrev pub after_fraction : ℕ → Option Part
after_fraction byte = if (byte == 101) || (byte == 69) then Some part.Letter else None

abbrev pub after_integer : ℕ → Option Part
after_integer byte = if byte == 46 then Some part.Point else after_fraction byte

abbrev pub sign : ℕ → Option Part
sign byte = if (byte == 43) || (byte == 45) then Some part.Sign else None

abbrev pub next_part : Part → ℕ → Option Part
next_part part.Minus byte = first_digit byte
next_part part.Zero byte = after_integer byte
next_part part.Integer byte = or_else (digit byte part.Integer) (after_integer byte)
next_part part.Point byte = digit byte part.Fraction
next_part part.Fraction byte = or_else (digit byte part.Fraction) (after_fraction byte)
next_part part.Letter byte = or_else (sign byte) (digit byte part.Exponent)
next_part part.Sign byte = digit byte part.Exponent
next_part part.Exponent byte = digit byte part.Exponent

abbrev pub is_final : Part → Bool
is_final part.Minus = false
is_final part.Zero = true
is_final part.Integer = true
is_final part.Point = false
is_final part.Fraction = true
is_final part.Letter = false
is_final part.Sign = false
is_final part.Exponent = true

abbrev pub letter_of : Letters → ℕ
letter_of letters.Ull = 117
letter_of letters.Ll = 108
letter_of letters.L = 108
letter_of letters.Rue = 114
letter_of letters.Ue = 117
letter_of letters.TrueE = 101
letter_of letters.Alse = 97
letter_of letters.Lse = 108
letter_of letters.Se = 115
letter_of letters.FalseE = 101

abbrev pub letters_after : Letters → Option Letters
letters_after letters.Ull = Some letters.Ll
letters_after letters.Ll = Some letters.L
letters_after letters.L = None
letters_after letters.Rue = Some letters.Ue
letters_after letters.Ue = Some letters.TrueE
letters_after letters.TrueE = None
letters_after letters.Alse = Some letters.Lse
letters_after letters.Lse = Some letters.Se
letters_after letters.Se = Some letters.FalseE
letters_after letters.FalseE = None

abbrev pub named : Letters → JsonNode
named letters.Ull = node.Null
named letters.Ll = node.Null
named letters.L = node.Null
named letters.Rue = node.Bool true
named letters.Ue = node.Bool true
named letters.TrueE = node.Bool true
named letters.Alse = node.Bool false
named letters.Lse = node.Bool false
named letters.Se = node.Bool false
named letters.FalseE = node.Bool false

abbrev pub with_digit : Digits → ℕ → Result Digits ℕ
with_digit digits.Zero d = Ok (digits.One d)
with_digit (digits.One a) d = Ok (digits.Two a d)
with_digit (digits.Two a b) d = Ok (digits.Three a b d)
with_digit (digits.Three a b c) d = Err (a * 4096 + b * 256 + c * 16 + d)

abbrev pub tail_behind : ℕ → Option Mode
tail_behind byte = option_map (λ row. mode.Tail row.low row.high row.left) (tails_of byte)
