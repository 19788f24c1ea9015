-- The shape of each class of tokens, by the characters that stand at its place (this project; ECMA-262 12.7 to 12.9).
use Rattle.std.specs.Prelude.{ℕ, Bool, false, ◌==◌, ◌&&◌, List, [], ◌∷◌, if◌then◌else◌, drop, slice_range}
use Rattle.std.specs.Str.{chars}
use Rattle.es_tokens.specs.Family.{starts_point, starts_radix_letter}
use Rattle.es_tokens.specs.IsLongest.{IsLongest}
use Rattle.es_tokens.specs.NameShape.{name, private_name}
use Rattle.es_tokens.specs.NumberShape.{decimal, non_decimal}
use Rattle.es_tokens.specs.PunctuatorShape.{punctuators}
use Rattle.es_tokens.specs.QuotedShape.{string_shape}
use Rattle.es_tokens.specs.RegexShape.{regex}
use Rattle.es_tokens.specs.Shape.{Shape, char, has_shape}
use Rattle.es_tokens.specs.TemplateShape.{template_begun, template_resumed}
use Rattle.es_tokens.specs.declared.token.Token.{Token}
use Rattle.es_tokens.specs.declared.token.TokenClass.{TokenClass}
use Rattle.es_tokens.specs.declared.token.TokenClass.TheVariants.{Name, Keyword, PrivateName, Number, Str, Template, Head, Middle, Tail, Regex, Punct}

abbrev pub starts_with : ℕ → List ℕ → Bool
starts_with c [] = false
starts_with c (first ∷ more) = first == c

-- `0x`, `0b` or `0o`, in either case
abbrev pub starts_prefix : List ℕ → Bool
starts_prefix [] = false
starts_prefix (c ∷ more) = c == 0x30 && starts_radix_letter more

-- `?.` and a digit, of which the `?` alone is a punctuator
abbrev pub starts_choice : List ℕ → Bool
starts_choice [] = false
starts_choice (c ∷ more) = c == 0x3f && starts_point more

abbrev pub class_shape : TokenClass → List ℕ → Shape
class_shape Name begun = name
class_shape Keyword begun = name
class_shape PrivateName begun = private_name
class_shape Number begun = if starts_prefix begun then non_decimal else decimal
class_shape Str begun = if starts_with 0x22 begun then string_shape 0x22 else string_shape 0x27
class_shape Template begun = template_begun
class_shape Head begun = template_begun
class_shape Middle begun = template_resumed
class_shape Tail begun = template_resumed
class_shape Regex begun = regex
class_shape Punct begun = if starts_choice begun then char 0x3f else punctuators

-- a token's characters are the longest of its class at its place
abbrev pub IsLongestOfClass : List ℕ → Token → Type 0
IsLongestOfClass text token =
    let begun = chars (drop token.span.start text) in
    IsLongest (has_shape (class_shape token.class begun)) begun (chars (slice_range text token.span.start token.span.end)) (chars (drop token.span.end text))
