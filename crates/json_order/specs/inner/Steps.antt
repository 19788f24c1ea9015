-- How the reader goes on at each byte. Private clauses alone cite this file: what the reader answers is said by the
-- grammar.
use Rattle.std.specs.Prelude.{◌≡◌, ℕ, ◌+◌, ◌-◌, Bool, true, false, List, [], ◌∷◌, ◌++◌, length, Option, Some, None, Result, Ok, Err, if◌then◌else◌, ◌==◌, ◌&&◌, ◌||◌, nat_lt, nat_le, option_and_then}
use Rattle.std.specs.Char.{digit_value}
use Rattle.std.specs.Str.{is_utf8}
use Rattle.json_order.specs.declared.tree.JsonNode.TheVariants as node
use Rattle.json_order.specs.declared.tree.JsonNode.{JsonNode}
use Rattle.json_order.specs.declared.tree.JsonTree.{JsonTree}
use Rattle.json_order.specs.declared.frame.Frame.{Frame}
use Rattle.json_order.specs.declared.frame.Frame.TheVariants as frame
use Rattle.json_order.specs.declared.frame.Inner.{Inner}
use Rattle.json_order.specs.declared.frame.Inner.TheVariants as inner
use Rattle.json_order.specs.declared.mode.Mode.{Mode}
use Rattle.json_order.specs.declared.mode.Mode.TheVariants as mode
use Rattle.json_order.specs.declared.mode.Part.{Part}
use Rattle.json_order.specs.declared.mode.Letters.{Letters}
use Rattle.json_order.specs.declared.mode.Letters.TheVariants as letters
use Rattle.json_order.specs.declared.mode.Digits.{Digits}
use Rattle.json_order.specs.declared.mode.Digits.TheVariants as digits
use Rattle.json_order.specs.declared.reader.Reader.{Reader}
use Rattle.json_order.specs.declared.fault.Stop.{Stop}
use Rattle.json_order.specs.declared.fault.Stop.TheVariants.{Wrong, NoMemory}
use Rattle.json_order.specs.declared.fault.JsonFault.{JsonFault}
use Rattle.json_order.specs.declared.fault.JsonEnd.{JsonEnd}
use Rattle.json_order.specs.declared.fault.JsonEnd.TheVariants as end
use Rattle.json_order.specs.declared.fault.JsonKind.{JsonKind}
use Rattle.json_order.specs.declared.fault.JsonKind.TheVariants as kind
use Rattle.json_order.specs.Grammar.{character, paired, escaped, is_high, is_low}
use Rattle.json_order.specs.Members.{put}
use Rattle.json_order.specs.inner.Frames.{inner_of}
use Rattle.json_order.specs.inner.Modes.{first_part, next_part, is_final, letter_of, letters_after, named, with_digit, tail_behind}

-- a call went on to the next reader, or stopped where there is none, unless memory ran out
abbrev pub Goes : Result (Unit {0}) Stop → Reader → Option Reader → Type 0
Goes (Ok done) new next = next ≡ Some new
Goes (Err Wrong) new next = next ≡ None
Goes (Err NoMemory) new next = Unit {0}

abbrev pub Finishes : Result JsonTree Stop → Option JsonTree → Type 0
Finishes (Ok tree) found = found ≡ Some tree
Finishes (Err Wrong) found = found ≡ None
Finishes (Err NoMemory) found = Unit {0}

-- the reader of a whole text
abbrev pub fresh : Reader
fresh = record { mode = mode.Value; start = 0; word = []; high = None; is_key = false; stack = []; root = None }

abbrev pub tree_at : ℕ → JsonNode → JsonTree
tree_at at node = record { at = at; node = node }

abbrev pub in_mode : Reader → Mode → Reader
in_mode r m = record r { mode = m }

-- a value is whole: it goes into the innermost bracket
abbrev pub put_value : Reader → JsonTree → List Frame → Reader
put_value r value [] = record r { mode = mode.After; root = Some value; stack = [] }
put_value r value (frame.List at items ∷ frames) = record r { mode = mode.After; stack = frame.List at (items ++ value ∷ []) ∷ frames }
put_value r value (frame.Object at members key key_at ∷ frames) =
    record r { mode = mode.After; stack = frame.Object at (put members key key_at value) [] key_at ∷ frames }

abbrev pub with_value : Reader → JsonTree → Reader
with_value r value = put_value r value r.stack

abbrev pub opened : Reader → Frame → Mode → Reader
opened r f m = record r { mode = m; stack = f ∷ r.stack }

abbrev pub close_list_of : Reader → List Frame → Option Reader
close_list_of r [] = None
close_list_of r (frame.List at items ∷ frames) = Some (put_value r (tree_at at (node.List items)) frames)
close_list_of r (frame.Object at members key key_at ∷ frames) = None

abbrev pub closed_list : Reader → Option Reader
closed_list r = close_list_of r r.stack

abbrev pub close_object_of : Reader → List Frame → Option Reader
close_object_of r [] = None
close_object_of r (frame.List at items ∷ frames) = None
close_object_of r (frame.Object at members key key_at ∷ frames) = Some (put_value r (tree_at at (node.Object members)) frames)

abbrev pub closed_object : Reader → Option Reader
closed_object r = close_object_of r r.stack

abbrev pub is_space : ℕ → Bool
is_space byte = (byte == 32) || ((byte == 9) || ((byte == 10) || (byte == 13)))

abbrev pub spaced : Reader → ℕ → Option Reader
spaced r byte = if is_space byte then Some r else None

abbrev pub string_at : Reader → ℕ → Bool → Reader
string_at r at is_key = record r { mode = mode.Chars; start = at; word = []; high = None; is_key = is_key }

abbrev pub name_at : Reader → ℕ → Letters → Reader
name_at r at l = record r { mode = mode.Name l; start = at }

abbrev pub number_at : Reader → ℕ → ℕ → Part → Reader
number_at r at byte p = record r { mode = mode.Number p; start = at; word = byte ∷ [] }

abbrev pub other_at : Reader → ℕ → ℕ → Option Reader
other_at r at byte =
    if byte == 34 then Some (string_at r at false)
    else (if byte == 91 then Some (opened r (frame.List at []) mode.FirstItem)
    else (if byte == 123 then Some (opened r (frame.Object at [] [] 0) mode.FirstKey)
    else (if byte == 110 then Some (name_at r at letters.Ull)
    else (if byte == 116 then Some (name_at r at letters.Rue)
    else (if byte == 102 then Some (name_at r at letters.Alse)
    else spaced r byte)))))

abbrev pub begin_at : Reader → ℕ → ℕ → Option Part → Option Reader
begin_at r at byte (Some p) = Some (number_at r at byte p)
begin_at r at byte None = other_at r at byte

abbrev pub value_step : Reader → ℕ → ℕ → Option Reader
value_step r at byte = begin_at r at byte (first_part byte)

abbrev pub first_item_step : Reader → ℕ → ℕ → Option Reader
first_item_step r at byte = if byte == 93 then closed_list r else value_step r at byte

abbrev pub key_step : Reader → ℕ → ℕ → Option Reader
key_step r at byte = if byte == 34 then Some (string_at r at true) else spaced r byte

abbrev pub first_key_step : Reader → ℕ → ℕ → Option Reader
first_key_step r at byte = if byte == 125 then closed_object r else key_step r at byte

abbrev pub colon_step : Reader → ℕ → Option Reader
colon_step r byte = if byte == 58 then Some (in_mode r mode.Value) else spaced r byte

abbrev pub comma_in : Reader → Option Inner → Option Reader
comma_in r None = None
comma_in r (Some inner.List) = Some (in_mode r mode.Value)
comma_in r (Some inner.Object) = Some (in_mode r mode.Key)

abbrev pub after_step : Reader → ℕ → Option Reader
after_step r byte =
    if byte == 44 then comma_in r (inner_of r.stack)
    else (if byte == 93 then closed_list r
    else (if byte == 125 then closed_object r
    else spaced r byte))

abbrev pub name_on : Reader → Letters → Option Letters → Reader
name_on r l None = with_value r (tree_at r.start (named l))
name_on r l (Some next) = in_mode r (mode.Name next)

abbrev pub name_step : Reader → Letters → ℕ → Option Reader
name_step r l byte = if byte == letter_of l then Some (name_on r l (letters_after l)) else None

abbrev pub closed_number : Reader → Option Reader
closed_number r = if is_utf8 r.word then Some (with_value (record r { word = [] }) (tree_at r.start (node.Number r.word))) else None

abbrev pub number_on : Reader → Part → ℕ → Option Part → Option Reader
number_on r p byte (Some next) = Some (record r { mode = mode.Number next; word = r.word ++ byte ∷ [] })
number_on r p byte None = if is_final p then option_and_then (λ s. after_step s byte) (closed_number r) else None

abbrev pub number_step : Reader → Part → ℕ → Option Reader
number_step r p byte = number_on r p byte (next_part p byte)

-- what a surrogate that waits becomes where none follows
abbrev pub alone : Option ℕ → List ℕ
alone None = []
alone (Some high) = character high

abbrev pub ended : Reader → Reader
ended r = record r { word = r.word ++ alone r.high; high = None }

abbrev pub keyed_in : Reader → List ℕ → List Frame → Option Reader
keyed_in r key [] = None
keyed_in r key (frame.List at items ∷ frames) = None
keyed_in r key (frame.Object at members old old_at ∷ frames) =
    Some (record r { mode = mode.Colon; stack = frame.Object at members key r.start ∷ frames })

abbrev pub string_done : Reader → List ℕ → Option Reader
string_done r content = if r.is_key then keyed_in r content r.stack else Some (with_value r (tree_at r.start (node.Str content)))

abbrev pub close_string_of : Reader → Option Reader
close_string_of r = if is_utf8 r.word then string_done (record r { word = [] }) r.word else None

abbrev pub closed_string : Reader → Option Reader
closed_string r = close_string_of (ended r)

abbrev pub with_bytes : Reader → List ℕ → Mode → Reader
with_bytes r bytes m = record r { mode = m; word = r.word ++ bytes }

abbrev pub tail_on : Reader → ℕ → Option Mode → Option Reader
tail_on r byte None = None
tail_on r byte (Some m) = Some (with_bytes (ended r) (byte ∷ []) m)

abbrev pub unescaped_step : Reader → ℕ → Option Reader
unescaped_step r byte =
    if nat_lt byte 32 then None
    else (if nat_lt byte 128 then Some (with_bytes (ended r) (byte ∷ []) mode.Chars)
    else tail_on r byte (tail_behind byte))

abbrev pub chars_step : Reader → ℕ → Option Reader
chars_step r byte =
    if byte == 34 then closed_string r
    else (if byte == 92 then Some (in_mode r mode.Escape)
    else unescaped_step r byte)

abbrev pub escape_on : Reader → Option ℕ → Option Reader
escape_on r None = None
escape_on r (Some char) = Some (with_bytes (ended r) (char ∷ []) mode.Chars)

abbrev pub escape_step : Reader → ℕ → Option Reader
escape_step r byte = if byte == 117 then Some (in_mode r (mode.Hex digits.Zero)) else escape_on r (escaped byte)

abbrev pub lone_unit : Reader → ℕ → Reader
lone_unit r number =
    if is_high number then record r { mode = mode.Chars; high = Some number }
    else with_bytes r (character number) mode.Chars

abbrev pub unit_after : Reader → ℕ → Option ℕ → Reader
unit_after r number None = lone_unit (ended r) number
unit_after r number (Some high) =
    if is_high high && is_low number
    then record r { mode = mode.Chars; word = r.word ++ paired high number; high = None }
    else lone_unit (ended r) number

abbrev pub with_unit : Reader → ℕ → Reader
with_unit r number = unit_after r number r.high

abbrev pub digits_on : Reader → Result Digits ℕ → Reader
digits_on r (Ok more) = in_mode r (mode.Hex more)
digits_on r (Err number) = with_unit r number

abbrev pub hex_step : Reader → Digits → ℕ → Option Reader
hex_step r ds byte = if nat_lt (digit_value byte) 16 then Some (digits_on r (with_digit ds (digit_value byte))) else None

abbrev pub tail_mode : ℕ → Mode
tail_mode left = if nat_lt left 2 then mode.Chars else mode.Tail 0x80 0xBF (left - 1)

abbrev pub tail_step : Reader → ℕ → ℕ → ℕ → ℕ → Option Reader
tail_step r low high left byte =
    if nat_le low byte && nat_le byte high then Some (with_bytes r (byte ∷ []) (tail_mode left)) else None

abbrev pub step_in : Mode → Reader → ℕ → ℕ → Option Reader
step_in mode.Value r at byte = value_step r at byte
step_in mode.FirstItem r at byte = first_item_step r at byte
step_in mode.FirstKey r at byte = first_key_step r at byte
step_in mode.Key r at byte = key_step r at byte
step_in mode.Colon r at byte = colon_step r byte
step_in mode.After r at byte = after_step r byte
step_in (mode.Name l) r at byte = name_step r l byte
step_in (mode.Number p) r at byte = number_step r p byte
step_in mode.Chars r at byte = chars_step r byte
step_in mode.Escape r at byte = escape_step r byte
step_in (mode.Hex ds) r at byte = hex_step r ds byte
step_in (mode.Tail low high left) r at byte = tail_step r low high left byte

unfoldable pub step : Reader → ℕ → ℕ → Option Reader
step r at byte = step_in r.mode r at byte

abbrev pub root_at : Option JsonTree → List Frame → Option JsonTree
root_at root [] = root
root_at root (f ∷ frames) = None

abbrev pub finish_in : Mode → Reader → Option JsonTree
finish_in mode.Value r = None
finish_in mode.FirstItem r = None
finish_in mode.FirstKey r = None
finish_in mode.Key r = None
finish_in mode.Colon r = None
finish_in mode.After r = root_at r.root r.stack
finish_in (mode.Name l) r = None
finish_in (mode.Number p) r = if is_final p then option_and_then (λ s. root_at s.root s.stack) (closed_number r) else None
finish_in mode.Chars r = None
finish_in mode.Escape r = None
finish_in (mode.Hex ds) r = None
finish_in (mode.Tail low high left) r = None

unfoldable pub finished : Reader → Option JsonTree
finished r = finish_in r.mode r

abbrev pub fault_at : ℕ → JsonKind → JsonFault
fault_at at kind = record { offset = at; kind = kind }

abbrev pub ends_by : ℕ → Option JsonTree → Result JsonTree JsonFault
ends_by at None = Err (fault_at at kind.End)
ends_by at (Some tree) = Ok tree

abbrev pub goes_by : ℕ → ℕ → Option Reader → (Reader → Result JsonTree JsonFault) → Result JsonTree JsonFault
goes_by limit at None on = Err (fault_at at kind.Byte)
goes_by limit at (Some r) on = if nat_le (length r.stack) limit then on r else Err (fault_at at kind.Depth)

-- the answer for the rest of a text, where so many brackets may be open
abbrev pub run : ℕ → Reader → ℕ → List ℕ → Result JsonTree JsonFault
run limit r at [] = ends_by at (finished r)
run limit r at (byte ∷ rest) = goes_by limit at (step r at byte) (λ next. run limit next (at + 1) rest)

abbrev pub end_at : Stop → ℕ → JsonKind → JsonEnd
end_at Wrong at kind = end.Fault (fault_at at kind)
end_at NoMemory at kind = end.NoMemory
