-- The limits on a tree (this project).
use Rattle.std.specs.Prelude.{◌≢◌, ℕ, ◌<◌, not, ◌&&◌, ◌||◌, bytes_eq, List, [], length, is_some, IsTrue, All, AllPairs}
use Rattle.fault_place.specs.declared.limit.Limit.{Limit}
use Rattle.fault_place.specs.declared.limit.Limit.TheVariants.{Files, PathBytes}
use Rattle.fault_place.specs.Limit.{number_of}
use Rattle.outside.specs.Tree.{Tree, bytes_at, has_file_within}

-- a file or a folder of the tree, the root not counted
abbrev pub IsEntryPath : Tree → List ℕ → Type 0
IsEntryPath tree path = IsTrue (is_some (bytes_at tree path) || (not (bytes_eq path []) && has_file_within tree path))

-- Files: there are more files and folders than the number. PathBytes: one of them has a path of more bytes.
abbrev pub Exceeds : Tree → Limit → Type 0
Exceeds tree Files =
    (paths : List (List ℕ)) × All (IsEntryPath tree) paths × AllPairs (λ one other. one ≢ other) paths × (number_of Files < length paths)
Exceeds tree PathBytes = (path : List ℕ) × IsEntryPath tree path × (number_of PathBytes < length path)
Exceeds tree other = ⊥
