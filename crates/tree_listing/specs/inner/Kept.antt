-- What a walk keeps of a folder's entries, and what it has found (this project).
use Rattle.std.specs.Prelude.{◌≡◌, ◌⊎◌, ℕ, ◌+◌, ◌<◌, ◌≤◌, Bool, true, false, List, [], ◌∷◌, ◌++◌, length, flat_map, All, Contains, Result, MatchResult}
use Rattle.fault_place.specs.declared.limit.Limit.{Limit}
use Rattle.fault_place.specs.declared.limit.Limit.TheVariants.{Files, PathBytes}
use Rattle.fault_place.specs.Limit.{number_of}
use Rattle.path_text.specs.Child.{child_of, is_segment, IsSegment}
use Rattle.path_text.specs.Path.{IsNormal, parent_of}
use Rattle.outside.specs.declared.entry.DirEntry.{DirEntry}
use Rattle.outside.specs.declared.entry.EntryKind.TheVariants.{Folder}
use Rattle.tree_listing.specs.declared.kept.Kept.{Kept}
use Rattle.tree_listing.specs.declared.list_end.ListEnd.{ListEnd}
use Rattle.tree_listing.specs.declared.list_end.ListEnd.TheVariants.{Failed, Limit as Over, NoMemory}

abbrev pub as_folder : List ℕ → Kept
as_folder path = record { path = path; kind = Folder }

abbrev pub root : Kept
root = as_folder []

abbrev pub entry_in : List ℕ → DirEntry → Kept
entry_in folder entry = record { path = child_of folder entry.name; kind = entry.kind }

-- what is kept of an entry of a folder: nothing where its name isn't a segment
abbrev pub kept_where : Bool → Kept → List Kept
kept_where true kept = kept ∷ []
kept_where false kept = []

abbrev pub kept_of : List ℕ → DirEntry → List Kept
kept_of folder entry = kept_where (is_segment entry.name) (entry_in folder entry)

-- what is kept of the entries of a folder
abbrev pub kept_in : List ℕ → List DirEntry → List Kept
kept_in folder entries = flat_map (kept_of folder) entries

-- no path is longer than the limit allows
abbrev pub AreShort : List Kept → Type 0
AreShort kept = All (λ entry. length entry.path ≤ number_of PathBytes) kept

-- the root and no more files and folders than the limit allows
abbrev pub AreFew : List Kept → Type 0
AreFew kept = length kept ≤ number_of Files + 1

-- an entry but the root has a normal path that isn't too long, and stands in a folder that was kept
abbrev pub IsFoundIn : List Kept → Kept → Type 0
IsFoundIn kept entry = (entry ≡ root) ⊎ (IsNormal entry.path × (length entry.path ≤ number_of PathBytes) × Contains kept (as_folder (parent_of entry.path)))

-- what a walk has found, whatever its reader told
pub record AreFound (kept : List Kept) : Type 0 where
  pub few : AreFew kept
  pub from_root : Contains kept root
  pub each : All (IsFoundIn kept) kept

pub record HasKept (folder : List ℕ) (entries : List DirEntry) (old new : List Kept) : Type 0 where
  pub kept : new ≡ old ++ kept_in folder entries
  pub short : AreShort (kept_in folder entries)
  pub few : AreFew new

-- the limit that a path exceeds beside so many kept entries, the root among them
abbrev pub IsOver : Limit → ℕ → List ℕ → Type 0
IsOver Files count path = number_of Files < count
IsOver PathBytes count path = number_of PathBytes < length path
IsOver other count path = ⊥

-- an entry of the folder is one too many, or has too long a path
pub record Refuses (folder : List ℕ) (entries : List DirEntry) (old : List Kept) (limit : Limit) : Type 0 where
  pub done : List DirEntry
  pub entry : DirEntry
  pub rest : List DirEntry
  pub split : entries ≡ done ++ entry ∷ rest
  pub segment : IsSegment entry.name
  pub over : IsOver limit (length (old ++ kept_in folder done)) (child_of folder entry.name)

-- an end of keeping a folder's entries has its cause among them
abbrev pub IsRefusal : List ℕ → List DirEntry → List Kept → ListEnd → Type 0
IsRefusal folder entries old (Over limit) = Refuses folder entries old limit
IsRefusal folder entries old Failed = ⊥
IsRefusal folder entries old NoMemory = Unit {0}

-- the entries are kept, or one of them is refused
abbrev pub KeepsEntries : List ℕ → List DirEntry → List Kept → List Kept → Result Unit ListEnd → Type 0
KeepsEntries folder entries old new result = MatchResult result (λ _. HasKept folder entries old new) (λ end. IsRefusal folder entries old end)
