-- Normal paths, and how a text becomes one (this project). A text is the list of its bytes.
use Rattle.std.specs.Prelude.{◌≡◌, ℕ, Bool, not, ◌&&◌, ◌||◌, ◌==◌, ◌⊎◌, nat_lt, List, [], ◌∷◌, ◌++◌, map, length, take, slice_index, bytes_eq, codes, IsTrue, Result, Err, Option, Some, None, option_map, option_and_then, ok_or, if◌then◌else◌}
use Rattle.std.specs.Borrow.{Bor}
use Rattle.std.specs.List.{slice_split, join_with_byte, list_any, list_all, before_last}
use Rattle.path_text.specs.declared.path_end.PathEnd.{PathEnd}
use Rattle.path_text.specs.declared.path_end.PathEnd.TheVariants.{Above, Absolute, BadChar}

-- the byte `/`
abbrev pub is_slash : ℕ → Bool
is_slash byte = byte == 47

-- a character that no path has: one below U+0020, or U+007F
abbrev pub is_forbidden : ℕ → Bool
is_forbidden byte = nat_lt byte 32 || byte == 127

-- the texts behind a list of references
abbrev pub texts : List (Bor (List ℕ)) → List (List ℕ)
texts parts = map (λ part. part.now) parts

-- the parts of a text between its slashes
abbrev pub segments : List ℕ → List (List ℕ)
segments text = slice_split is_slash text

-- segments with slashes between them
abbrev pub path_of : List (List ℕ) → List ℕ
path_of parts = join_with_byte 47 parts

-- a segment that stays where it is: nothing, or `.`
abbrev pub is_here : List ℕ → Bool
is_here segment = bytes_eq segment [] || bytes_eq segment (codes ".")

-- the segment `..`
abbrev pub is_up : List ℕ → Bool
is_up segment = bytes_eq segment (codes "..")

-- a segment that names an entry: neither nothing nor `.` nor `..`
abbrev pub is_name : List ℕ → Bool
is_name segment = not (is_here segment || is_up segment)

-- Normal: each segment is a name, and no character is forbidden.
-- The text of no bytes has the one segment of nothing, so it isn't normal.
abbrev pub is_normal : List ℕ → Bool
is_normal path = list_all is_name (segments path) && not (list_any is_forbidden path)

abbrev pub IsNormal : List ℕ → Type 0
IsNormal path = IsTrue (is_normal path)

-- a normal path, or the root, which is the text of no bytes
abbrev pub IsFolderPath : List ℕ → Type 0
IsFolderPath path = (path ≡ []) ⊎ IsNormal path

-- the segments of a folder's path: none of the root
abbrev pub folder_segments : List ℕ → List (List ℕ)
folder_segments [] = []
folder_segments (byte ∷ bytes) = segments (byte ∷ bytes)

-- all but the last segment; None at the root, which has none
abbrev pub without_last : List (List ℕ) → Option (List (List ℕ))
without_last [] = None
without_last (first ∷ rest) = Some (take (length rest) (first ∷ rest))

-- where one segment leads from a folder
abbrev pub step_from : List (List ℕ) → List ℕ → Option (List (List ℕ))
step_from folder segment =
    if is_here segment then Some folder else (if is_up segment then without_last folder else Some (folder ++ segment ∷ []))

-- where segments lead, one after another; None where a `..` finds no segment to take
abbrev pub walk_from : List (List ℕ) → List (List ℕ) → Option (List (List ℕ))
walk_from folder [] = Some folder
walk_from folder (segment ∷ rest) = option_and_then (λ next. walk_from next rest) (step_from folder segment)

-- whether the first byte is `/` (of no bytes `slice_index` gives 0)
abbrev pub begins_with_slash : List ℕ → Bool
begins_with_slash text = is_slash (slice_index text 0)

-- what a rest names from a folder: the causes of a refusal in their order, else the one path
abbrev pub join_of : List ℕ → List ℕ → Result (List ℕ) PathEnd
join_of folder rest =
    if list_any is_forbidden rest then Err BadChar
    else (if begins_with_slash rest then Err Absolute
    else ok_or (option_map path_of (walk_from (folder_segments folder) (segments rest))) Above)

-- what a text names from the root
abbrev pub normal_of : List ℕ → Result (List ℕ) PathEnd
normal_of text = join_of [] text

-- all before the last slash, or the root where there is none
abbrev pub parent_of : List ℕ → List ℕ
parent_of path = before_last is_slash path
