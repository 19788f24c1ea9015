-- Trees of files (this project): a finite map from normal paths to bytes in which no path is a folder of another.
use Rattle.std.specs.Prelude.{◌≡◌, ℕ, Bool, true, not, List, [], ◌∷◌, ◌++◌, map, Option, Some, IsTrue, nat_eq}
use Rattle.std.specs.List.{list_any, list_all, starts_with}
use Rattle.std.specs.Ordering.{nat_cmp}
use Rattle.std.specs.Cmp.Lexicographic.{slice_cmp}
use Rattle.std.specs.FinMap.Entries.{find, is_sorted}
use Rattle.path_text.specs.Path.{is_normal}

-- the files by their paths, in byte order
abbrev pub Tree : Type 0
Tree = List (List ℕ × List ℕ)

-- the bytes of the file at a path
abbrev pub bytes_at : Tree → List ℕ → Option (List ℕ)
bytes_at tree path = find (slice_cmp nat_cmp) path tree

-- the paths of the files, in byte order
abbrev pub files_of : Tree → List (List ℕ)
files_of tree = map (λ file. file.0) tree

-- what the path of all that lies in a folder begins with
abbrev pub within : List ℕ → List ℕ
within [] = []
within (byte ∷ bytes) = (byte ∷ bytes) ++ 47 ∷ []

-- some file lies in the folder
abbrev pub has_file_within : Tree → List ℕ → Bool
has_file_within tree folder = list_any (λ path. starts_with nat_eq path (within folder)) (files_of tree)

-- the root is a folder, and so is what a file lies in
abbrev pub is_folder : Tree → List ℕ → Bool
is_folder tree [] = true
is_folder tree (byte ∷ bytes) = has_file_within tree (byte ∷ bytes)

pub record IsTree (tree : Tree) : Type 0 where
  pub sorted : IsTrue (is_sorted (slice_cmp nat_cmp) tree)
  pub normal : IsTrue (list_all is_normal (files_of tree))
  pub apart : IsTrue (list_all (λ path. not (has_file_within tree path)) (files_of tree))

-- a fact of the tree, where one is told
abbrev pub Told : Option Tree → (Tree → Type 0) → Type 0
Told told fact = (tree : Tree) → told ≡ Some tree → fact tree
