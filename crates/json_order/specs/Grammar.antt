-- The grammar of JSON (RFC 8259), by cases on the text. A part of the grammar says of a place in a text that the
-- part stands there, and that what is said of the place behind it holds.
use Rattle.std.specs.Prelude.{◌≡◌, ℕ, zero, suc, ◌+◌, ◌-◌, ◌*◌, ◌<◌, ◌≤◌, ◌⊎◌, Bool, true, false, List, [], ◌∷◌, ◌++◌, Option, None, Some, codes, encode_utf8, if◌then◌else◌, ◌==◌, ◌&&◌, nat_lt, nat_le}
use Rattle.std.specs.Char.{digit_value}
use lib.Utf8.{scalar}
use Rattle.std.specs.List.{AllByRecursion}
use Rattle.json_order.specs.declared.tree.JsonNode.{JsonNode}
use Rattle.json_order.specs.declared.tree.JsonNode.TheVariants as node
use Rattle.json_order.specs.declared.tree.JsonTree.{JsonTree}
use Rattle.json_order.specs.declared.tree.JsonPair.{JsonPair}
use Rattle.json_order.specs.Members.{merged}

-- what is said of a place in a text: of its offset and of the bytes from there on
abbrev pub Said : Type 1
Said = ℕ → List ℕ → Type 0

-- the text ends
abbrev pub IsEnd : ℕ → List ℕ → Type 0
IsEnd at [] = Unit {0}
IsEnd at (byte ∷ rest) = ⊥

-- these bytes
abbrev pub Word : List ℕ → Said → ℕ → List ℕ → Type 0
Word [] behind at text = behind at text
Word (b ∷ bs) behind at [] = ⊥
Word (b ∷ bs) behind at (byte ∷ rest) = (byte ≡ b) × Word bs behind (at + 1) rest

-- section 2: ws is spaces, tabs, line feeds and carriage returns
abbrev pub IsSpace : ℕ → Type 0
IsSpace byte = (byte ≡ 32) ⊎ (byte ≡ 9) ⊎ (byte ≡ 10) ⊎ (byte ≡ 13)

abbrev pub Space : Said → ℕ → List ℕ → Type 0
Space behind at [] = behind at []
Space behind at (byte ∷ rest) = behind at (byte ∷ rest) ⊎ (IsSpace byte × Space behind (at + 1) rest)

-- section 6: number = [ minus ] int [ frac ] [ exp ]
abbrev pub IsDigit : ℕ → Type 0
IsDigit byte = (48 ≤ byte) × (byte ≤ 57)

abbrev pub IsDigits : List ℕ → Type 0
IsDigits [] = ⊥
IsDigits (d ∷ ds) = IsDigit d × AllByRecursion IsDigit ds

abbrev pub IsMinus : List ℕ → Type 0
IsMinus minus = (minus ≡ []) ⊎ (minus ≡ 45 ∷ [])

-- a zero, or digits that don't begin with one
abbrev pub IsInt : List ℕ → Type 0
IsInt [] = ⊥
IsInt (d ∷ ds) = ((d ≡ 48) × (ds ≡ [])) ⊎ ((49 ≤ d) × (d ≤ 57) × AllByRecursion IsDigit ds)

-- a point and digits, or nothing
abbrev pub IsFrac : List ℕ → Type 0
IsFrac [] = Unit {0}
IsFrac (point ∷ ds) = (point ≡ 46) × IsDigits ds

-- digits, which a plus or a minus may precede
abbrev pub IsSigned : List ℕ → Type 0
IsSigned [] = ⊥
IsSigned (byte ∷ ds) = (((byte ≡ 43) ⊎ (byte ≡ 45)) × IsDigits ds) ⊎ IsDigits (byte ∷ ds)

-- an e of either case and signed digits, or nothing
abbrev pub IsExp : List ℕ → Type 0
IsExp [] = Unit {0}
IsExp (letter ∷ signed) = ((letter ≡ 101) ⊎ (letter ≡ 69)) × IsSigned signed

pub record IsNumber (word : List ℕ) : Type 0 where
  pub minus : List ℕ
  pub int : List ℕ
  pub frac : List ℕ
  pub exp : List ℕ
  pub joined : word ≡ minus ++ (int ++ (frac ++ exp))
  pub is_minus : IsMinus minus
  pub is_int : IsInt int
  pub is_frac : IsFrac frac
  pub is_exp : IsExp exp

-- RFC 3629, section 4: the bytes behind a first byte, by the least and the greatest second byte and their number
pub record Tails : Type 0 where
  pub low : ℕ
  pub high : ℕ
  pub left : ℕ

abbrev pub tails : ℕ → ℕ → ℕ → Tails
tails low high left = record { low = low; high = high; left = left }

abbrev pub tails_of : ℕ → Option Tails
tails_of byte =
    if nat_lt byte 0xC2 then None
    else (if nat_le byte 0xDF then Some (tails 0x80 0xBF 1)
    else (if byte == 0xE0 then Some (tails 0xA0 0xBF 2)
    else (if byte == 0xED then Some (tails 0x80 0x9F 2)
    else (if nat_le byte 0xEF then Some (tails 0x80 0xBF 2)
    else (if byte == 0xF0 then Some (tails 0x90 0xBF 3)
    else (if nat_le byte 0xF3 then Some (tails 0x80 0xBF 3)
    else (if byte == 0xF4 then Some (tails 0x80 0x8F 3)
    else None)))))))

abbrev pub AreTails : ℕ → ℕ → ℕ → List ℕ → Type 0
AreTails low high zero bytes = bytes ≡ []
AreTails low high (suc left) [] = ⊥
AreTails low high (suc left) (byte ∷ bytes) = (low ≤ byte) × (byte ≤ high) × AreTails 0x80 0xBF left bytes

-- section 7: a character that stands as it is: no quotation mark, no backslash, and none below U+0020
abbrev pub IsUnescaped : List ℕ → Type 0
IsUnescaped [] = ⊥
IsUnescaped (byte ∷ bytes) =
    ((32 ≤ byte) × (byte < 128) × (byte ≡ 34 → ⊥) × (byte ≡ 92 → ⊥) × (bytes ≡ []))
    ⊎ ((row : Tails) × (tails_of byte ≡ Some row) × AreTails row.low row.high row.left bytes)

-- what stands behind a backslash for one character: " \ / b f n r t
abbrev pub escaped : ℕ → Option ℕ
escaped letter =
    if letter == 34 then Some 34
    else (if letter == 92 then Some 92
    else (if letter == 47 then Some 47
    else (if letter == 98 then Some 8
    else (if letter == 102 then Some 12
    else (if letter == 110 then Some 10
    else (if letter == 114 then Some 13
    else (if letter == 116 then Some 9
    else None)))))))

-- a character of a string: its own bytes, a backslash with a letter and the character it stands for, or \u with four digits
pub data Piece : Type 0 where
  plain : List ℕ → Piece
  escape : ℕ → ℕ → Piece
  unit : ℕ → ℕ → ℕ → ℕ → Piece

abbrev pub spelled : Piece → List ℕ
spelled (plain bytes) = bytes
spelled (escape letter char) = 92 ∷ letter ∷ []
spelled (unit a b c d) = 92 ∷ 117 ∷ a ∷ b ∷ c ∷ d ∷ []

abbrev pub IsHexDigit : ℕ → Type 0
IsHexDigit byte = digit_value byte < 16

abbrev pub IsPiece : Piece → Type 0
IsPiece (plain bytes) = IsUnescaped bytes
IsPiece (escape letter char) = escaped letter ≡ Some char
IsPiece (unit a b c d) = IsHexDigit a × IsHexDigit b × IsHexDigit c × IsHexDigit d

-- the number that four hexadecimal digits write
abbrev pub unit_of : ℕ → ℕ → ℕ → ℕ → ℕ
unit_of a b c d = digit_value a * 4096 + digit_value b * 256 + digit_value c * 16 + digit_value d

abbrev pub is_high : ℕ → Bool
is_high number = nat_le 0xD800 number && nat_lt number 0xDC00

abbrev pub is_low : ℕ → Bool
is_low number = nat_le 0xDC00 number && nat_lt number 0xE000

-- the bytes of a character; a surrogate is none, and becomes U+FFFD (this project)
abbrev pub character : ℕ → List ℕ
character number = if scalar number then encode_utf8 number else encode_utf8 0xFFFD

-- the character of a pair of surrogates
abbrev pub paired : ℕ → ℕ → List ℕ
paired high low = character (0x10000 + (high - 0xD800) * 1024 + (low - 0xDC00))

-- what the pieces of a string stand for: two surrogates that are a pair are one character
abbrev pub content_of : List Piece → List ℕ
content_of [] = []
content_of (plain bytes ∷ pieces) = bytes ++ content_of pieces
content_of (escape letter char ∷ pieces) = char ∷ content_of pieces
content_of (unit a b c d ∷ []) = character (unit_of a b c d)
content_of (unit a b c d ∷ plain bytes ∷ pieces) = character (unit_of a b c d) ++ (bytes ++ content_of pieces)
content_of (unit a b c d ∷ escape letter char ∷ pieces) = character (unit_of a b c d) ++ (char ∷ content_of pieces)
content_of (unit a b c d ∷ unit e f g h ∷ pieces) =
    if is_high (unit_of a b c d) && is_low (unit_of e f g h)
    then paired (unit_of a b c d) (unit_of e f g h) ++ content_of pieces
    else character (unit_of a b c d) ++ content_of (unit e f g h ∷ pieces)

-- section 7: char, again and again, and the closing quotation mark
abbrev pub Chars : List Piece → Said → ℕ → List ℕ → Type 0
Chars [] behind at text = Word (34 ∷ []) behind at text
Chars (piece ∷ pieces) behind at text = IsPiece piece × Word (spelled piece) (Chars pieces behind) at text

abbrev pub Quoted : List Piece → Said → ℕ → List ℕ → Type 0
Quoted pieces behind at text = Word (34 ∷ []) (Chars pieces behind) at text

-- sections 4 and 5, for the values of one depth: a value is followed by white space and a comma or the closing bracket
module _ (Item : JsonTree → Said → ℕ → List ℕ → Type 0) where
  abbrev pub MoreItems : List JsonTree → Said → ℕ → List ℕ → Type 0
  MoreItems [] behind at text = Word (codes "]") behind at text
  MoreItems (item ∷ items) behind at text = Word (codes ",") (Space (Item item (Space (MoreItems items behind)))) at text

  abbrev pub Items : List JsonTree → Said → ℕ → List ℕ → Type 0
  Items [] behind at text = Word (codes "]") behind at text
  Items (item ∷ items) behind at text = Item item (Space (MoreItems items behind)) at text

  -- a key at this place, a colon and a value
  abbrev pub Member : JsonPair → Said → ℕ → List ℕ → Type 0
  Member pair behind at text = (pieces : List Piece) × (pair.key ≡ content_of pieces) × (pair.key_at ≡ at)
      × Quoted pieces (Space (Word (codes ":") (Space (Item pair.value behind)))) at text

  abbrev pub MoreMembers : List JsonPair → Said → ℕ → List ℕ → Type 0
  MoreMembers [] behind at text = Word (codes "}") behind at text
  MoreMembers (pair ∷ pairs) behind at text = Word (codes ",") (Space (Member pair (Space (MoreMembers pairs behind)))) at text

  abbrev pub Members : List JsonPair → Said → ℕ → List ℕ → Type 0
  Members [] behind at text = Word (codes "}") behind at text
  Members (pair ∷ pairs) behind at text = Member pair (Space (MoreMembers pairs behind)) at text

-- section 3: what a value is written as
pub data Form : Type 0 where
  null : Form
  boolean : Bool → Form
  number : List ℕ → Form
  string : List Piece → Form
  array : List JsonTree → Form
  object : List JsonPair → Form

abbrev pub boolean_name : Bool → List ℕ
boolean_name true = codes "true"
boolean_name false = codes "false"

-- the value that is written so
abbrev pub node_of : Form → JsonNode
node_of null = node.Null
node_of (boolean b) = node.Bool b
node_of (number word) = node.Number word
node_of (string pieces) = node.Str (content_of pieces)
node_of (array items) = node.List items
node_of (object members) = node.Object (merged [] members)

-- a value that is written in some form, and the offset of its first byte
abbrev pub Written : (Form → Said → ℕ → List ℕ → Type 0) → JsonTree → Said → ℕ → List ℕ → Type 0
Written Formed tree behind at text = (form : Form) × (tree ≡ record { at = at; node = node_of form }) × Formed form behind at text

-- section 3: value = false / null / true / object / array / number / string, with at most so many brackets open in it
abbrev pub Formed : Form → ℕ → Said → ℕ → List ℕ → Type 0
Formed null deep behind at text = Word (codes "null") behind at text
Formed (boolean b) deep behind at text = Word (boolean_name b) behind at text
Formed (number word) deep behind at text = IsNumber word × Word word behind at text
Formed (string pieces) deep behind at text = Quoted pieces behind at text
Formed (array items) zero behind at text = ⊥
Formed (array items) (suc deep) behind at text = Word (codes "[") (Space (Items (Written (λ form. Formed form deep)) items behind)) at text
Formed (object members) zero behind at text = ⊥
Formed (object members) (suc deep) behind at text = Word (codes "{") (Space (Members (Written (λ form. Formed form deep)) members behind)) at text

abbrev pub Value : ℕ → JsonTree → Said → ℕ → List ℕ → Type 0
Value deep tree behind at text = Written (λ form. Formed form deep) tree behind at text

-- section 2: JSON-text = ws value ws
abbrev pub IsText : ℕ → JsonTree → ℕ → List ℕ → Type 0
IsText deep tree at text = Space (Value deep tree (Space IsEnd)) at text
