-- What may still come in each state of the machine of names.
use Rattle.es_tokens.specs.Shape.{Shape, empty, seq, alt, char, followed}
use Rattle.es_tokens.specs.NameShape.{hex, hex2, hex3, hex4, upto1, upto2, upto3, upto4, zeros, lead, value, escape_kind, name, name_rest, private_name}
use Rattle.es_tokens.specs.declared.escape.Value.{Value}
use Rattle.es_tokens.specs.declared.escape.Value.TheVariants.{Start, Zeros, One, Four, Three, Two, Last, Full, WideFour, WideThree, WideTwo, WideLast}
use Rattle.es_tokens.specs.declared.escape.Escape.{Escape}
use Rattle.es_tokens.specs.declared.escape.Escape.TheVariants.{Backslash, Kind, Hex3, Hex2, Hex1, Braced, Done}
use Rattle.es_tokens.specs.declared.name.Name.{Name}
use Rattle.es_tokens.specs.declared.name.Name.TheVariants.{Private, First, Rest, Escaped}

abbrev pub value_rest : Value → Shape
value_rest Start = value
value_rest Zeros = alt zeros (seq zeros lead)
value_rest One = alt upto4 (seq (char 0x30) hex4)
value_rest Four = upto4
value_rest Three = upto3
value_rest Two = upto2
value_rest Last = upto1
value_rest Full = empty
value_rest WideFour = alt upto3 hex4
value_rest WideThree = alt upto2 hex3
value_rest WideTwo = alt upto1 hex2
value_rest WideLast = alt empty hex

abbrev pub escape_rest : Escape → Shape
escape_rest Backslash = seq (char 0x75) escape_kind
escape_rest Kind = escape_kind
escape_rest Hex3 = hex3
escape_rest Hex2 = hex2
escape_rest Hex1 = hex
escape_rest (Braced state) = followed (value_rest state) (char 0x7d)
escape_rest Done = empty

abbrev pub name_left : Name → Shape
name_left Private = private_name
name_left First = name
name_left Rest = name_rest
name_left (Escaped state) = followed (escape_rest state) name_rest
