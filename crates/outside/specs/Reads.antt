-- What a reader's calls answer of a tree (this project).
use Rattle.std.specs.Prelude.{◌≡◌, ◌≢◌, ◌≤◌, ℕ, Bool, true, false, nat_le, List, [], ◌∷◌, ◌++◌, length, Option, Some, None, is_some, Result, Ok, Err, is_ok, IsOk, IfOk, IsTrue, Contains, All, AllPairs, Vec, if◌then◌else◌}
use Rattle.std.specs.declared.alloc.Global.{Global}
use Rattle.path_text.specs.Child.{child_of, IsSegment}
use Rattle.outside.specs.Cause.{HasCause}
use Rattle.outside.specs.Tree.{Tree, Told, bytes_at, is_folder}
use Rattle.outside.specs.Views.{ReaderView}
use Rattle.outside.specs.declared.outside_end.OutsideEnd.{OutsideEnd}
use Rattle.outside.specs.declared.entry.DirEntry.{DirEntry}
use Rattle.outside.specs.declared.entry.EntryKind.{EntryKind}
use Rattle.outside.specs.declared.entry.EntryKind.TheVariants.{File, Folder}
use Rattle.outside.specs.declared.entry.ReadGot.{ReadGot}
use Rattle.outside.specs.declared.entry.ReadGot.TheVariants.{Whole, TooLong}
use Rattle.outside.specs.declared.entry.Why.{Why}

-- a file by its bytes, or else a folder where there is one
abbrev pub kind_of : Option (List ℕ) → Bool → Option EntryKind
kind_of (Some bytes) folder = Some (File (length bytes))
kind_of None true = Some Folder
kind_of None false = None

-- what stands at a path: a file with its length, a folder, or nothing
abbrev pub kind_at : Tree → List ℕ → Option EntryKind
kind_at tree path = kind_of (bytes_at tree path) (is_folder tree path)

-- the entry stands right in the folder
pub record IsEntry (tree : Tree) (folder : List ℕ) (entry : DirEntry) : Type 0 where
  pub segment : IsSegment entry.name
  pub there : kind_at tree (child_of folder entry.name) ≡ Some entry.kind

-- the entries of a folder: each is one, each one is among them, and none twice
pub record AreEntries (tree : Tree) (folder : List ℕ) (entries : List DirEntry) : Type 0 where
  pub each : All (IsEntry tree folder) entries
  pub all : (entry : DirEntry) → IsEntry tree folder entry → Contains entries entry
  pub once : AllPairs (λ one other. one.name ≢ other.name) entries

-- a listing that answers Ok is told
abbrev pub listed_after : Result (Vec DirEntry Global) OutsideEnd → List (List ℕ) → List ℕ → List (List ℕ)
listed_after result listed path = if is_ok result then listed ++ path ∷ [] else listed

-- A listing answers the entries of a folder of the tree and of nothing else, and is told; only another path is a stray.
pub record IsFolderOf (tree : Tree) (path : List ℕ) (before now : ReaderView) (result : Result (Vec DirEntry Global) OutsideEnd) : Type 0 where
  pub entries : IfOk result (λ entries. AreEntries tree path entries.items)
  pub folder : IsOk result → IsTrue (is_folder tree path)
  pub listed : now.listed ≡ listed_after result before.listed path
  pub no_stray : IsTrue (is_folder tree path) → now.strays ≡ before.strays

-- what a listing does to its reader
pub record ListsFolder (path : List ℕ) (before now : ReaderView) (result : Result (Vec DirEntry Global) OutsideEnd) : Type 0 where
  pub log : now.log ≡ before.log
  pub cause : HasCause before.faults now.faults result
  pub told : Told before.tree (λ tree. IsFolderOf tree path before now result)

-- what a read gives of a file's bytes
abbrev pub read_of : ℕ → List ℕ → ReadGot
read_of most bytes = if nat_le (length bytes) most then Whole bytes else TooLong

-- a whole file has no more bytes than were asked for, told or not
abbrev pub IsWithin : ℕ → Result ReadGot OutsideEnd → Type 0
IsWithin most (Ok (Whole bytes)) = length bytes ≤ most
IsWithin most (Ok TooLong) = Unit {0}
IsWithin most (Err end) = Unit {0}

-- a read that answers Ok joins the log
abbrev pub log_after : Result ReadGot OutsideEnd → List (List ℕ × Why) → List ℕ → Why → List (List ℕ × Why)
log_after result log path why = if is_ok result then log ++ (path, why) ∷ [] else log

-- A read answers what the file has, and of no other path, and joins the log; only another path is a stray.
pub record IsFileOf (tree : Tree) (path : List ℕ) (why : Why) (most : ℕ) (before now : ReaderView) (result : Result ReadGot OutsideEnd) : Type 0 where
  pub got : IfOk result (λ got. (bytes : List ℕ) × (bytes_at tree path ≡ Some bytes) × (got ≡ read_of most bytes))
  pub log : now.log ≡ log_after result before.log path why
  pub listed : now.listed ≡ before.listed
  pub no_stray : IsTrue (is_some (bytes_at tree path)) → now.strays ≡ before.strays

-- what a read does to its reader
pub record ReadsPath (path : List ℕ) (why : Why) (most : ℕ) (before now : ReaderView) (result : Result ReadGot OutsideEnd) : Type 0 where
  pub cause : HasCause before.faults now.faults result
  pub within : IsWithin most result
  pub told : Told before.tree (λ tree. IsFileOf tree path why most before now result)
