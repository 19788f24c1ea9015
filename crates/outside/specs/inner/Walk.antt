-- What files give of a folder that is listed, one after another (this project).
use Rattle.std.specs.Prelude.{ℕ, ◌-◌, Bool, true, false, ◌&&◌, nat_eq, nat_lt, List, [], ◌∷◌, ◌++◌, length, drop, slice_get, bytes_eq, Option, Some, None, option_map, if◌then◌else◌}
use Rattle.std.specs.List.{starts_with, position_or_len, before_first}
use Rattle.path_text.specs.Path.{is_slash}
use Rattle.outside.specs.Tree.{within}
use Rattle.outside.specs.declared.entry.DirEntry.{DirEntry}
use Rattle.outside.specs.declared.entry.EntryKind.{EntryKind}
use Rattle.outside.specs.declared.entry.EntryKind.TheVariants.{File, Folder}

-- what follows the folder and its slash in a path, where the path lies in the folder
abbrev pub rest_within : List ℕ → List ℕ → Option (List ℕ)
rest_within folder path =
    if starts_with nat_eq path (within folder) then Some (drop (length (within folder)) path) else None

-- a folder where a slash follows the name, or else a file of so many bytes
abbrev pub kind_of_rest : List ℕ → ℕ → EntryKind
kind_of_rest rest count = if nat_lt (position_or_len is_slash rest) (length rest) then Folder else File count

-- the entry whose name is the first segment
abbrev pub entry_of_rest : List ℕ → ℕ → DirEntry
entry_of_rest rest count = record { name = before_first is_slash rest; kind = kind_of_rest rest count }

-- the entry of the folder that a file is, or lies in
abbrev pub child_in : List ℕ → List ℕ × List ℕ → Option DirEntry
child_in folder file = option_map (λ rest. entry_of_rest rest (length file.1)) (rest_within folder file.0)

abbrev pub is_named : List ℕ → Option DirEntry → Bool
is_named name None = false
is_named name (Some entry) = bytes_eq entry.name name

abbrev pub is_last_name : List ℕ → List DirEntry → Bool
is_last_name name entries = is_named name (slice_get entries (length entries - 1))

abbrev pub is_folder_kind : EntryKind → Bool
is_folder_kind (File count) = false
is_folder_kind Folder = true

-- the entries and one more, but for a folder that is the last of them
abbrev pub with_entry : List DirEntry → Option DirEntry → List DirEntry
with_entry entries None = entries
with_entry entries (Some entry) =
    if is_folder_kind entry.kind && is_last_name entry.name entries then entries else entries ++ entry ∷ []
