-- What stands right in a folder (this project).
use Rattle.std.specs.Prelude.{ℕ, Bool, not, ◌&&◌, List, [], ◌∷◌, ◌++◌, IsTrue}
use Rattle.std.specs.List.{list_any}
use Rattle.path_text.specs.Path.{is_normal, is_slash}

-- the name of one entry of a folder: a normal path of one segment
abbrev pub is_segment : List ℕ → Bool
is_segment name = is_normal name && not (list_any is_slash name)

abbrev pub IsSegment : List ℕ → Type 0
IsSegment name = IsTrue (is_segment name)

-- the path of the entry `name` of a folder
abbrev pub child_of : List ℕ → List ℕ → List ℕ
child_of [] name = name
child_of (byte ∷ bytes) name = (byte ∷ bytes) ++ 47 ∷ name
