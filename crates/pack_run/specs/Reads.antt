-- What a command reads (this project).
use Rattle.std.specs.Prelude.{◌≡◌, ◌⊎◌, ℕ, List, [], ◌∷◌, map, nat_eq, IsPermutation}
use Rattle.std.specs.List.{IsDistinct}
use Rattle.module_build.specs.Reads.{file_path}
use Rattle.outside.specs.Logs.{is_config, module_paths, paths_for}
use Rattle.outside.specs.Tree.{Tree}
use Rattle.outside.specs.declared.entry.Why.{Why}
use Rattle.pack_run.specs.Accepted.{IsBuild, IsRefused}

-- these are the configurations that words name: one for a build, and none for words that are refused
abbrev pub AreNamed : List (List ℕ) → ℕ → List (List ℕ) → Type 0
AreNamed words readers paths =
    (IsRefused words readers × (paths ≡ [])) ⊎ ((config : List ℕ) × IsBuild words readers config × (paths ≡ config ∷ []))

-- The configuration is read once, these files once each as modules, and besides nothing but manifests.
pub record ReadsBuild (words : List (List ℕ)) (readers : ℕ) (paths : List (List ℕ)) (reads : List (List ℕ × Why)) : Type 0 where
  pub config : AreNamed words readers (paths_for is_config reads)
  pub modules : IsPermutation paths (module_paths reads)

-- The configuration is read once or not at all, and besides nothing but modules and manifests.
pub record ReadsInPart (words : List (List ℕ)) (readers : ℕ) (reads : List (List ℕ × Why)) : Type 0 where
  pub config : (paths_for is_config reads ≡ []) ⊎ AreNamed words readers (paths_for is_config reads)

-- no file of the tree is read twice as a module
abbrev pub NoneTwice : Tree → List (List ℕ × Why) → Type 0
NoneTwice tree reads = (files : List ℕ) × IsDistinct nat_eq files × (module_paths reads ≡ map (file_path tree) files)
