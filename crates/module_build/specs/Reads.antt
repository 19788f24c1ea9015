-- What building modules reads (this project).
use Rattle.std.specs.Prelude.{◌≡◌, ℕ, ◌⊎◌, List, [], ◌∷◌, Result, Ok, Err}
use Rattle.outside.specs.Logs.{Gains, is_config, module_paths, paths_for}
use Rattle.outside.specs.Tree.{Tree}
use Rattle.outside.specs.Views.{ReaderView}
use Rattle.outside.specs.declared.entry.Why.{Why}
use Rattle.outside.specs.declared.outside_end.OutsideEnd.{OutsideEnd}
use Rattle.tree_listing.specs.Listing.{lengths_of, path_at}

-- the path of the file with a number
abbrev pub file_path : Tree → ℕ → List ℕ
file_path tree file = path_at (lengths_of tree) file

-- these paths are read as modules, in this order, and besides nothing but manifests
pub record ReadsPaths (paths : List (List ℕ)) (reads : List (List ℕ × Why)) : Type 0 where
  pub are : module_paths reads ≡ paths
  pub no_config : paths_for is_config reads ≡ []

-- an Ok has read the module, and any other answer has read it or none
abbrev pub ReadsModule : {T : Type 0} → List ℕ → Result T OutsideEnd → List (List ℕ × Why) → Type 0
ReadsModule path (Ok value) reads = ReadsPaths (path ∷ []) reads
ReadsModule path (Err end) reads = ReadsPaths [] reads ⊎ ReadsPaths (path ∷ []) reads

-- what is read for one file of a tree
pub record ReadsFile {T : Type 0} (tree : Tree) (file : ℕ) (before now : ReaderView) (result : Result T OutsideEnd) : Type 0 where
  pub no_stray : now.strays ≡ before.strays
  pub reads : Gains before now (ReadsModule (file_path tree file) result)
