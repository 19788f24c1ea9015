-- A path as a file, and the main files of a folder (webpack documentation, `resolve.extensions` and `resolve.mainFiles`).
use Rattle.std.specs.Prelude.{ℕ, List, [], ◌∷◌, ◌++◌, map}
use Rattle.std.specs.List.{flat_map}
use Rattle.graph_types.specs.declared.config.Config.{Config}
use Rattle.path_text.specs.Child.{child_of}

-- as a file: the path itself, then with each extension; the root is no file
abbrev pub file_paths : Config → List ℕ → List (List ℕ)
file_paths config [] = []
file_paths config (byte ∷ bytes) = (byte ∷ bytes) ∷ map (λ extension. (byte ∷ bytes) ++ extension) config.extensions

-- each main file of a folder, as a file
abbrev pub main_file_paths : Config → List ℕ → List (List ℕ)
main_file_paths config folder = flat_map (λ name. file_paths config (child_of folder name)) config.main_files
