-- What `list` answers of a tree (this project).
use Rattle.std.specs.Prelude.{◌≡◌, ◌≢◌, ◌⊎◌, ℕ, List, ◌++◌, Result, Ok, Err, IfOk, IsErrOf, AllPairs}
use Rattle.std.specs.List.Sorted.{IsPermutation}
use Rattle.fault_place.specs.declared.limit.Limit.{Limit}
use Rattle.fault_place.specs.declared.limit.Limit.TheVariants.{Files, PathBytes}
use Rattle.outside.specs.Cause.{Rose}
use Rattle.outside.specs.Tree.{Tree}
use Rattle.outside.specs.Views.{ReaderView}
use Rattle.tree_listing.specs.Limits.{Exceeds}
use Rattle.tree_listing.specs.Listing.{Listed, IsListingOf}
use Rattle.tree_listing.specs.declared.list_end.ListEnd.{ListEnd}
use Rattle.tree_listing.specs.declared.list_end.ListEnd.TheVariants.{Failed, Limit as Over, NoMemory}

-- A listing is that of a tree within its limits. A limit is exceeded where it is named.
abbrev pub IsAnswer : Tree → Result Listed ListEnd → Type 0
IsAnswer tree (Ok listing) = IsListingOf tree listing × ((limit : Limit) → ¬ Exceeds tree limit)
IsAnswer tree (Err (Over limit)) = Exceeds tree limit
IsAnswer tree (Err Failed) = Unit {0}
IsAnswer tree (Err NoMemory) = Unit {0}

-- what was listed, folder after folder: none twice, and where a listing is answered, its folders
pub record ListsEachOnce (before now : ReaderView) (result : Result Listed ListEnd) : Type 0 where
  pub more : List (List ℕ)
  pub joined : now.listed ≡ before.listed ++ more
  pub once : AllPairs (λ one other. one ≢ other) more
  pub all : IfOk result (λ listing. IsPermutation more listing.folders)

-- the answer on the tree; only paths of folders were asked for, and each folder once
pub record ListsTree (tree : Tree) (before now : ReaderView) (result : Result Listed ListEnd) : Type 0 where
  pub no_stray : now.strays ≡ before.strays
  pub answer : IsAnswer tree result
  pub folders : ListsEachOnce before now result

-- What any part of a listing does to its reader, told or not: nothing is read, and each end has its cause.
pub record Asks {T : Type 0} (before now : ReaderView) (result : Result T ListEnd) : Type 0 where
  pub log : now.log ≡ before.log
  pub cause : IsErrOf result Failed → Rose before.faults now.faults
  pub limit : (limit : Limit) → IsErrOf result (Over limit) → (limit ≡ Files) ⊎ (limit ≡ PathBytes)
