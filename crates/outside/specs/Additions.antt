-- Adding a file to a tree (this project).
use Rattle.std.specs.Prelude.{◌≡◌, ◌⊎◌, ℕ, Bool, not, ◌||◌, List, is_some, Result, Ok, Err, MatchResult, nat_eq, if◌then◌else◌}
use Rattle.std.specs.List.{list_any, starts_with}
use Rattle.std.specs.Ordering.{nat_cmp}
use Rattle.std.specs.Cmp.Lexicographic.{slice_cmp}
use Rattle.std.specs.FinMap.Entries.{put}
use Rattle.path_text.specs.Path.{is_normal}
use Rattle.outside.specs.Tree.{Tree, bytes_at, files_of, within, has_file_within}
use Rattle.outside.specs.declared.tree_end.TreeEnd.{TreeEnd}
use Rattle.outside.specs.declared.tree_end.TreeEnd.TheVariants.{NotNormal, Clash, NoMemory}

-- the path begins with a file and a slash, as if that file were a folder
abbrev pub has_file_above : Tree → List ℕ → Bool
has_file_above tree path = list_any (λ file. starts_with nat_eq path (within file)) (files_of tree)

-- the path is there, is a folder of a file there, or has a file there as a folder
abbrev pub clashes : Tree → List ℕ → Bool
clashes tree path = is_some (bytes_at tree path) || has_file_within tree path || has_file_above tree path

-- the tree with one file more
abbrev pub with_file : Tree → List ℕ → List ℕ → Result Tree TreeEnd
with_file tree path bytes =
    if not (is_normal path) then Err NotNormal
    else (if clashes tree path then Err Clash else Ok (put (slice_cmp nat_cmp) path bytes tree))

-- An Ok leaves the tree that is defined. Any other answer leaves the old one, and is the one defined or want of memory.
abbrev pub Becomes : Result Tree TreeEnd → Tree → Tree → Result Unit TreeEnd → Type 0
Becomes defined old new result =
    MatchResult result (λ _. defined ≡ Ok new) (λ end. (new ≡ old) × ((end ≡ NoMemory) ⊎ (defined ≡ Err end)))
