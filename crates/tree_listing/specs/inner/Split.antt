-- The files and the folders among what was kept, and the listing that holds them (this project).
use Rattle.std.specs.Prelude.{◌≡◌, ◌≢◌, ℕ, ◌≤◌, Bool, List, [], ◌∷◌, length, flat_map, Any, AllPairs, Contains, ◌↔◌}
use Rattle.std.specs.List.{dedup}
use Rattle.std.specs.List.Sorted.{IsPermutation, IsSorted}
use Rattle.std.specs.declared.cmp.Ordering.{Ordering}
use Rattle.outside.specs.declared.entry.EntryKind.{EntryKind}
use Rattle.outside.specs.declared.entry.EntryKind.TheVariants.{File, Folder}
use Rattle.tree_listing.specs.declared.kept.Kept.{Kept}
use Rattle.tree_listing.specs.Listing.{IsListing, Listed}

-- the files among kept entries, and the folders
abbrev pub file_where : List ℕ → EntryKind → List (List ℕ × ℕ)
file_where path (File size) = (path, size) ∷ []
file_where path Folder = []

abbrev pub folder_where : List ℕ → EntryKind → List (List ℕ)
folder_where path (File size) = []
folder_where path Folder = path ∷ []

abbrev pub files_among : List Kept → List (List ℕ × ℕ)
files_among kept = flat_map (λ entry. file_where entry.path entry.kind) kept

abbrev pub folders_among : List Kept → List (List ℕ)
folders_among kept = flat_map (λ entry. folder_where entry.path entry.kind) kept

-- what was kept, as files and folders
pub record IsSplit (kept : List Kept) (files : List (List ℕ × ℕ)) (folders : List (List ℕ)) : Type 0 where
  pub files_are : files ≡ files_among kept
  pub folders_are : folders ≡ folders_among kept

-- some members in order, and each once
pub record IsSortedOnce {X : Type 0} (compare : X → X → Ordering) (same : X → X → Bool) (members left : List X) : Type 0 where
  pub moved : List X
  pub permuted : IsPermutation members moved
  pub sorted : IsSorted compare moved
  pub once : left ≡ dedup same moved
  pub fewer : length left ≤ length members

-- the listing has the files, one of each path, and the folders, each once
pub record Holds (kept : List Kept) (listing : Listed) : Type 0 where
  pub is : IsListing listing
  pub each_file : (file : List ℕ × ℕ) → Contains listing.files file → Contains (files_among kept) file
  pub all_files : (file : List ℕ × ℕ) → Contains (files_among kept) file → Any (λ other. other.0 ≡ file.0) listing.files
  pub folders : (path : List ℕ) → Contains listing.folders path ↔ Contains (folders_among kept) path
  pub once : AllPairs (λ one other. one ≢ other) (folders_among kept) → IsPermutation (folders_among kept) listing.folders
