-- How a text is read: from its pieces between one `[` and the next. The private calls give what is defined here, and
-- proofs/Templates.antt shows that it is the text's template, as specs/Template.antt says what that is.
use Rattle.std.specs.Prelude.{ℕ, Bool, ◌+◌, ◌-◌, ◌*◌, ◌==◌, ◌&&◌, nat_le, nat_lt, nat_eq, List, [], ◌∷◌, ◌++◌, length, drop, codes, bytes_eq, Option, Some, None, option_map, option_and_then, if◌then◌else◌}
use Rattle.std.specs.List.{list_any, starts_with, position_or_len, before_first, after_first}
use Rattle.graph_types.specs.declared.part.Part.{Part}
use Rattle.graph_types.specs.declared.part.Part.TheVariants.{Fixed, Name, Id, Hash}

abbrev pub is_open : ℕ → Bool
is_open byte = byte == 91

abbrev pub is_close : ℕ → Bool
is_close byte = byte == 93

-- the value of a decimal digit that is at least so large
abbrev pub digit_of : ℕ → ℕ → Option ℕ
digit_of least byte = if nat_le (48 + least) byte && nat_le byte 57 then Some (byte - 48) else None

abbrev pub up_to_64 : ℕ → Option ℕ
up_to_64 n = if nat_le n 64 then Some n else None

-- a number from 1 to 64 in decimal
abbrev pub marked_number : List ℕ → Option ℕ
marked_number [] = None
marked_number (ones ∷ []) = digit_of 1 ones
marked_number (tens ∷ ones ∷ []) =
    option_and_then (λ ten. option_and_then (λ one. up_to_64 (10 * ten + one)) (digit_of 0 ones)) (digit_of 1 tens)
marked_number (first ∷ second ∷ third ∷ rest) = None

abbrev pub number_behind : List ℕ → List ℕ → Option ℕ
number_behind before word = if starts_with nat_eq word before then marked_number (drop (length before) word) else None

-- what a word between brackets stands for
abbrev pub mark_of : ℕ → List ℕ → Option Part
mark_of digits word =
    if bytes_eq word (codes "name") then Some Name
    else (if bytes_eq word (codes "id") then Some Id
    else (if bytes_eq word (codes "contenthash") then Some (Hash digits)
    else option_map (λ n. Hash n) (number_behind (codes "contenthash:") word)))

abbrev pub fixed_parts : List ℕ → List Part
fixed_parts [] = []
fixed_parts (byte ∷ bytes) = Fixed (byte ∷ bytes) ∷ []

-- with a fixed text behind them
abbrev pub with_fixed : List Part → List ℕ → Option (List Part)
with_fixed parts fixed = if list_any is_close fixed then None else Some (parts ++ fixed_parts fixed)

-- with what stands behind one `[`: a mark up to `]`, and a fixed text
abbrev pub with_marked : ℕ → List Part → List ℕ → Option (List Part)
with_marked digits parts marked =
    if nat_lt (position_or_len is_close marked) (length marked) then
    option_and_then (λ part. with_fixed (parts ++ part ∷ []) (after_first is_close marked)) (mark_of digits (before_first is_close marked))
    else None

abbrev pub with_all : ℕ → List Part → List (List ℕ) → Option (List Part)
with_all digits parts [] = Some parts
with_all digits parts (marked ∷ rest) = option_and_then (λ next. with_all digits next rest) (with_marked digits parts marked)

-- with all the pieces of a text, of which the first is fixed
abbrev pub with_pieces : ℕ → List Part → List (List ℕ) → Option (List Part)
with_pieces digits parts [] = None
with_pieces digits parts (fixed ∷ marked) = option_and_then (λ next. with_all digits next marked) (with_fixed parts fixed)

abbrev pub read_pieces : ℕ → List (List ℕ) → Option (List Part)
read_pieces digits pieces = with_pieces digits [] pieces
