-- What the reader answers, by what all JSON texts are (this project: the byte order mark, the depth, the one fault).
use Rattle.std.specs.Prelude.{◌≡◌, ℕ, ◌+◌, ◌<◌, nat_eq, List, [], ◌∷◌, ◌++◌, length, take, drop, Result, Ok, Err, if◌then◌else◌}
use Rattle.std.specs.List.{starts_with}
use Rattle.json_order.specs.declared.tree.JsonTree.{JsonTree}
use Rattle.json_order.specs.declared.fault.JsonFault.{JsonFault}
use Rattle.json_order.specs.declared.fault.JsonKind.{JsonKind}
use Rattle.json_order.specs.declared.fault.JsonKind.TheVariants.{Byte, End, Depth}
use Rattle.json_order.specs.declared.fault.JsonEnd.{JsonEnd}
use Rattle.json_order.specs.declared.fault.JsonEnd.TheVariants.{Fault, NoMemory}
use Rattle.json_order.specs.Grammar.{IsText}

-- how many brackets may be open
abbrev pub depth_limit : ℕ
depth_limit = 128

-- These bytes begin a JSON text with at most so many brackets open at a place. The texts begin at this offset of what is
-- read, which moves the offsets in their trees and nothing else.
abbrev pub GoesOn : ℕ → ℕ → List ℕ → Type 0
GoesOn start deep front = (more : List ℕ) × (tree : JsonTree) × IsText deep tree start (front ++ more)

-- they begin a JSON text, however deep
abbrev pub CanGoOn : ℕ → List ℕ → Type 0
CanGoOn start front = (deep : ℕ) × GoesOn start deep front

-- the first byte with which the text begins no JSON text within the limit
pub record StopsAt (start : ℕ) (text : List ℕ) (index : ℕ) : Type 0 where
  pub within : index < length text
  pub before : GoesOn start depth_limit (take index text)
  pub here : ¬ (GoesOn start depth_limit (take (index + 1) text))

-- Byte: no JSON text at all begins so. Depth: a deeper one does. End: the whole text begins one, and is none.
abbrev pub IsFaultOf : JsonKind → ℕ → List ℕ → ℕ → Type 0
IsFaultOf Byte start text index = StopsAt start text index × (¬ (CanGoOn start (take (index + 1) text)))
IsFaultOf Depth start text index = StopsAt start text index × CanGoOn start (take (index + 1) text)
IsFaultOf End start text index = (index ≡ length text) × GoesOn start depth_limit text × ((tree : JsonTree) → ¬ (IsText depth_limit tree start text))

-- the answer for a text that begins at an offset
abbrev pub IsAnswerFrom : ℕ → List ℕ → Result JsonTree JsonFault → Type 0
IsAnswerFrom start text (Ok tree) = IsText depth_limit tree start text
IsAnswerFrom start text (Err fault) = (index : ℕ) × (fault.offset ≡ start + index) × IsFaultOf fault.kind start text index

-- RFC 8259, section 8.1: a byte order mark may stand before the text, and is passed over
abbrev pub mark : List ℕ
mark = 0xEF ∷ 0xBB ∷ 0xBF ∷ []

abbrev pub start_of : List ℕ → ℕ
start_of text = if starts_with nat_eq text mark then 3 else 0

abbrev pub IsAnswer : List ℕ → Result JsonTree JsonFault → Type 0
IsAnswer text answer = IsAnswerFrom (start_of text) (drop (start_of text) text) answer

-- the result of a call is the answer, unless memory ran out
abbrev pub AnswersBy : (Result JsonTree JsonFault → Type 0) → Result JsonTree JsonEnd → Type 0
AnswersBy Is (Ok tree) = Is (Ok tree)
AnswersBy Is (Err (Fault fault)) = Is (Err fault)
AnswersBy Is (Err NoMemory) = Unit {0}
