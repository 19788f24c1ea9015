-- What a listing keeps of files and folders, and what it says of a tree (this project).
use Rattle.std.specs.Prelude.{◌≡◌, ℕ, ◌+◌, ◌≤◌, ◌↔◌, List, [], map, length, bytes_eq, position, slice_index_or, Option, All, Contains, IsTrue}
use Rattle.std.specs.Cmp.Lexicographic.{slice_cmp}
use Rattle.std.specs.FinMap.Entries.{is_sorted}
use Rattle.std.specs.List.Sorted.{IsStrictlySortedBy}
use Rattle.std.specs.Ordering.{nat_cmp}
use Rattle.fault_place.specs.declared.limit.Limit.TheVariants.{Files, PathBytes}
use Rattle.fault_place.specs.Limit.{number_of}
use Rattle.path_text.specs.Child.{IsSegment, child_of}
use Rattle.path_text.specs.Path.{IsFolderPath, IsNormal, parent_of}
use Rattle.outside.specs.Tree.{Tree, is_folder}

-- the files with their lengths, in byte order of path, and the folders
pub record Listed : Type 0 where
  pub files : List (List ℕ × ℕ)
  pub folders : List (List ℕ)

-- the path of each file is below those after it, so that no two files have one path
abbrev pub AreAscending : List (List ℕ × ℕ) → Type 0
AreAscending files = IsTrue (is_sorted (slice_cmp nat_cmp) files)

-- the path of each folder is below those after it, so that none is there twice
abbrev pub AreAscendingFolders : List (List ℕ) → Type 0
AreAscendingFolders folders = IsStrictlySortedBy (slice_cmp nat_cmp) folders

-- a path is no longer than the limit allows, and stands in one of the folders
pub record IsPlaced (folders : List (List ℕ)) (path : List ℕ) : Type 0 where
  pub short : length path ≤ number_of PathBytes
  pub parent : Contains folders (parent_of path)

-- the path is that of an entry, whose name is one segment, of one of the folders
pub record IsNamedIn (folders : List (List ℕ)) (path : List ℕ) : Type 0 where
  pub folder : List ℕ
  pub there : Contains folders folder
  pub name : List ℕ
  pub segment : IsSegment name
  pub is : path ≡ child_of folder name

-- What each listing keeps, whatever its reader told. The folder of each file and of each folder is a folder, the root
-- its own. What counts is each file and each folder but the root, be it empty or not.
pub record IsListing (listing : Listed) : Type 0 where
  pub files_ascend : AreAscending listing.files
  pub folders_ascend : AreAscendingFolders listing.folders
  pub root : Contains listing.folders []
  pub each_file : All (λ file. IsNormal file.0 × IsPlaced listing.folders file.0) listing.files
  pub each_folder : All (λ path. IsFolderPath path × IsPlaced listing.folders path) listing.folders
  pub few : length listing.files + length listing.folders ≤ number_of Files + 1

-- the path and the length of the file with a number
abbrev pub path_at : List (List ℕ × ℕ) → ℕ → List ℕ
path_at files number = (slice_index_or files number ([], 0)).0

abbrev pub length_at : List (List ℕ × ℕ) → ℕ → ℕ
length_at files number = (slice_index_or files number ([], 0)).1

-- the number of the file at a path
abbrev pub number_at : List (List ℕ × ℕ) → List ℕ → Option ℕ
number_at files path = position (λ file. bytes_eq file.0 path) files

-- the files of a tree with their lengths
abbrev pub lengths_of : Tree → List (List ℕ × ℕ)
lengths_of tree = map (λ file. (file.0, length file.1)) tree

-- the listing of a tree: its files, and as folders its folders and nothing else
pub record IsListingOf (tree : Tree) (listing : Listed) : Type 0 where
  pub files : listing.files ≡ lengths_of tree
  pub folders : (path : List ℕ) → Contains listing.folders path ↔ IsTrue (is_folder tree path)
