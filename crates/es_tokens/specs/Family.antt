-- Which one shape a token may have, by its first characters and by what stands before it (this project).
use Rattle.std.specs.Prelude.{ℕ, Bool, false, ◌==◌, ◌&&◌, ◌||◌, List, [], ◌∷◌, if◌then◌else◌, slice_index, length, ◌-◌, is_some}
use Rattle.es_tokens.specs.Characters.{is_digit, is_name_start}
use Rattle.es_tokens.specs.Shape.{Shape, no_text, char}
use Rattle.es_tokens.specs.NameShape.{name, private_name}
use Rattle.es_tokens.specs.NumberShape.{is_radix_letter, decimal, non_decimal}
use Rattle.es_tokens.specs.QuotedShape.{quote_char, string_shape}
use Rattle.es_tokens.specs.TemplateShape.{template_begun, template_resumed}
use Rattle.es_tokens.specs.RegexShape.{regex}
use Rattle.es_tokens.specs.PunctuatorShape.{punctuators}
use Rattle.es_tokens.specs.KeywordRole.{keyword_role}
use Rattle.es_tokens.specs.declared.family.Family.{Family}
use Rattle.es_tokens.specs.declared.family.Family.TheVariants.{Quoted, Begun, Resumed, Private, Comment, Punctuator, Question, Regex, Decimal, NonDecimal, Name}
use Rattle.es_tokens.specs.declared.quoted.Quote.TheVariants.{Single, Double}
use Rattle.es_tokens.specs.declared.token.TokenClass.TheVariants as class
use Rattle.es_tokens.specs.declared.token.TokenClass.{TokenClass}
use Rattle.es_tokens.specs.declared.token.TokenKind.{TokenKind}
use Rattle.es_tokens.specs.declared.token.TokenKind.TheVariants.{Unfinished, Stray}

abbrev pub starts_digit : List ℕ → Bool
starts_digit [] = false
starts_digit (c ∷ cs) = is_digit c

-- `.` and a digit
abbrev pub starts_point : List ℕ → Bool
starts_point [] = false
starts_point (c ∷ cs) = c == 0x2e && starts_digit cs

abbrev pub starts_radix_letter : List ℕ → Bool
starts_radix_letter [] = false
starts_radix_letter (c ∷ cs) = is_radix_letter c

abbrev pub starts_star : List ℕ → Bool
starts_star [] = false
starts_star (c ∷ cs) = c == 0x2a

-- behind a gap a comment that begins is one that isn't ended
abbrev pub slash_family : Bool → List ℕ → Family
slash_family division more = if starts_star more then Comment else (if division then Punctuator else Regex)

abbrev pub number_family : ℕ → List ℕ → Family
number_family c more = if c == 0x30 && starts_radix_letter more then NonDecimal else Decimal

-- `?.` is no punctuator where a digit follows
abbrev pub plain_family : ℕ → List ℕ → Family
plain_family c more =
    if is_name_start c || c == 0x5c then Name
    else (if is_digit c || (c == 0x2e && starts_digit more) then number_family c more
    else (if c == 0x3f && starts_point more then Question else Punctuator))

-- by the first character and those behind it; resumes: a `}` goes on with a template
abbrev pub family_of : Bool → Bool → ℕ → List ℕ → Family
family_of division resumes c more =
    if c == 0x22 then Quoted Double
    else (if c == 0x27 then Quoted Single
    else (if c == 0x60 then Begun
    else (if c == 0x7d && resumes then Resumed
    else (if c == 0x23 then Private
    else (if c == 0x2f then slash_family division more
    else plain_family c more)))))

abbrev pub shape_of : Family → Shape
shape_of (Quoted quote) = string_shape (quote_char quote)
shape_of Begun = template_begun
shape_of Resumed = template_resumed
shape_of Private = private_name
shape_of Comment = no_text
shape_of Punctuator = punctuators
shape_of Question = char 0x3f
shape_of Regex = regex
shape_of Decimal = decimal
shape_of NonDecimal = non_decimal
shape_of Name = name

-- what it is that no text of the shape stands there
abbrev pub family_fault : Family → TokenKind
family_fault (Quoted quote) = Unfinished
family_fault Begun = Unfinished
family_fault Resumed = Unfinished
family_fault Comment = Unfinished
family_fault Regex = Unfinished
family_fault Private = Stray
family_fault Punctuator = Stray
family_fault Question = Stray
family_fault Decimal = Stray
family_fault NonDecimal = Stray
family_fault Name = Stray

-- a part of a template that ends with a backquote is the last
abbrev pub ends_template : List ℕ → Bool
ends_template text = slice_index text (length text - 1) == 0x60

-- the class of a token of a family, with this text
abbrev pub class_of : Family → List ℕ → TokenClass
class_of (Quoted quote) text = class.Str
class_of Begun text = if ends_template text then class.Template else class.Head
class_of Resumed text = if ends_template text then class.Tail else class.Middle
class_of Private text = class.PrivateName
class_of Comment text = class.Punct
class_of Punctuator text = class.Punct
class_of Question text = class.Punct
class_of Regex text = class.Regex
class_of Decimal text = class.Number
class_of NonDecimal text = class.Number
class_of Name text = if is_some (keyword_role text) then class.Keyword else class.Name
