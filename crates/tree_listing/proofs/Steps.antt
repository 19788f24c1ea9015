-- How a walk goes on: from the root, past a file, and over the entries of a folder.
use Rattle.std.proofs.Common.{◌≡◌, ◌≢◌, ℕ, zero, suc, ◌+◌, ◌-◌, ◌<◌, ◌≤◌, true, List, [], ◌∷◌, ◌++◌, map, length, get_or, Option, Some, None, ◌⊎◌, refl, sym, ap, ◌∙◌, subst, inl, inr, arith, length-append}
use Rattle.std.proofs.lemmas.Bool.{cases_lt, or_left}
use Rattle.std.proofs.lemmas.List.{get_or-append-add, get_or-append_right, length-map, get_or-map, get_or_append_left, get_or_default}
use Rattle.std.proofs.lemmas.List.Elements.{All-append, All-cons, All-head, All-map, All-nil, All-tail}
use Rattle.std.specs.List.{All, AllPairs, Any}
use Rattle.std.specs.Prelude.{is_some}
use Rattle.path_text.specs.Child.{IsSegment, child_of}
use Rattle.path_text.specs.Path.{parent_of}
use Rattle.path_text.proofs.Children.{parent_of-child}
use Rattle.outside.specs.Reads.{kind_at, kind_of, IsEntry, AreEntries}
use Rattle.outside.specs.Tree.{Tree, IsTree, bytes_at, within, is_folder}
use Rattle.outside.specs.declared.entry.DirEntry.{DirEntry}
use Rattle.outside.specs.declared.entry.EntryKind.TheVariants.{File, Folder}
use Rattle.tree_listing.specs.Limits.{IsEntryPath}
use Rattle.tree_listing.specs.inner.Kept.{root, entry_in, kept_where, kept_of, kept_in, HasKept}
use Rattle.tree_listing.specs.inner.Walk.{IsBelow, IsWalk}
use Rattle.tree_listing.specs.declared.kept.Kept.{Kept}
use Rattle.tree_listing.proofs.Paths.{child-cancel, child-is_entry}
use Rattle.tree_listing.proofs.Trees.{FirstBelow, entry-full, first_below, file_given, none-below_file}

-- ---- pairs of a list of two parts

pub pairs-append : {X : Type 0} (R : X → X → Type 0) (xs ys : List X) → AllPairs R xs → AllPairs R ys → ((i j : ℕ) (d : X) → i < length xs → j < length ys → R (get_or xs i d) (get_or ys j d)) → AllPairs R (xs ++ ys)
pairs-append R xs ys front back across i j d before inside =
    at (cases_lt i (length xs)) (cases_lt j (length xs))
  where
    at : (i < length xs) ⊎ (length xs ≤ i) → (j < length xs) ⊎ (length xs ≤ j) → R (get_or (xs ++ ys) i d) (get_or (xs ++ ys) j d)
    at (inl low) (inl high) = rw (get_or_append_left xs ys d i low, get_or_append_left xs ys d j high) (front i j d before high)
    at (inl low) (inr high) = rw (get_or_append_left xs ys d i low, get_or-append_right xs ys (length xs) j d refl high) (across i (j - length xs) d low (omega (arith, length-append xs ys)))
    at (inr low) (inl high) = absurd (omega arith)
    at (inr low) (inr high) = rw (get_or-append_right xs ys (length xs) i d refl low, get_or-append_right xs ys (length xs) j d refl high) (back (i - length xs) (j - length xs) d (omega arith) (omega (arith, length-append xs ys)))

-- ---- what is kept of entries that stand in a folder

one-kept : (tree : Tree) (folder : List ℕ) (entry : DirEntry) → IsEntry tree folder entry → kept_of folder entry ≡ entry_in folder entry ∷ []
one-kept tree folder entry here = ap (λ own. kept_where own (entry_in folder entry)) here.segment

pub kept_in-entries : (tree : Tree) (folder : List ℕ) (entries : List DirEntry) → All (IsEntry tree folder) entries → kept_in folder entries ≡ map (entry_in folder) entries
kept_in-entries tree folder [] each = refl
kept_in-entries tree folder (entry ∷ entries) each =
    ap (λ xs. xs ++ kept_in folder entries) (one-kept tree folder entry (All-head (IsEntry tree folder) entry entries each))
    ∙ ap (λ xs. entry_in folder entry ∷ xs) (kept_in-entries tree folder entries (All-tail (IsEntry tree folder) entry entries each))

-- what the tree has at an entry's path; and two entries of different paths
abbrev Stands : Tree → Kept → Type 0
Stands tree entry = kind_at tree entry.path ≡ Some entry.kind

abbrev Differ : Kept → Kept → Type 0
Differ one other = one.path ≢ other.path

blank : DirEntry
blank = record { name = []; kind = Folder }

-- each is what the tree has there, and none is kept twice
pub record AreKept (tree : Tree) (kept : List Kept) : Type 0 where
  pub from_root : (rest : List Kept) × (kept ≡ root ∷ rest)
  pub there : All (λ entry. kind_at tree entry.path ≡ Some entry.kind) kept
  pub once : AllPairs (λ one other. one.path ≢ other.path) kept

pub first-root : (kept rest : List Kept) → kept ≡ root ∷ rest → get_or kept 0 root ≡ root
first-root kept rest e = ap (λ xs. get_or xs 0 root) e

-- an entry of the folder at the place isn't kept yet
apart : (tree : Tree) (place : ℕ) (kept : List Kept) → IsWalk tree place kept → place < length kept → (k : ℕ) → k < length kept → (name : List ℕ) → IsSegment name → (get_or kept k root).path ≢ child_of (get_or kept place root).path name
apart tree place kept walk inside zero within name own e =
    child-is_entry (get_or kept place root).path name own (sym e ∙ ap (λ (x : Kept). x.path) (first-root kept walk.from_root.0 walk.from_root.1))
apart tree place kept walk inside (suc k) within name own e =
    let above = walk.parents (suc k) (omega arith) within in
    walk.once above.0 place root above.1 inside (above.2 ∙ ap parent_of e ∙ parent_of-child (get_or kept place root).path name own)

-- the entry at a place among those of a folder, as it is kept
entry-at : (folder : List ℕ) (entries : List DirEntry) (j : ℕ) (d : Kept) → j < length entries → get_or (map (entry_in folder) entries) j d ≡ entry_in folder (get_or entries j blank)
entry-at folder entries j d inside = get_or-map (entry_in folder) entries j blank d inside

path-at : (folder : List ℕ) (entries : List DirEntry) (j : ℕ) (d : Kept) → j < length entries → (get_or (map (entry_in folder) entries) j d).path ≡ child_of folder (get_or entries j blank).name
path-at folder entries j d inside = ap (λ (x : Kept). x.path) (entry-at folder entries j d inside)

pub are_kept : (tree : Tree) (place : ℕ) (kept : List Kept) → IsWalk tree place kept → place < length kept → (entries : List DirEntry) → All (IsEntry tree (get_or kept place root).path) entries → AllPairs (λ one other. one.name ≢ other.name) entries → AreKept tree (kept ++ map (entry_in (get_or kept place root).path) entries)
are_kept tree place kept walk inside entries each once =
    let folder = (get_or kept place root).path in
    let count = length-map entries (entry_in folder) in
    record {
      from_root = (walk.from_root.0 ++ map (entry_in folder) entries, ap (λ xs. xs ++ map (entry_in folder) entries) walk.from_root.1);
      there = All-append (Stands tree) kept (map (entry_in folder) entries) walk.there (All-map (Stands tree) (entry_in folder) entries (λ k d h. (each k d h).there));
      once = pairs-append Differ kept (map (entry_in folder) entries) walk.once
          (λ i j d low high e.
          let second : j < length entries = omega arith in
          let first : i < length entries = omega arith in
          once i j blank low second (child-cancel folder (get_or entries i blank).name (get_or entries j blank).name (sym (path-at folder entries i d first) ∙ e ∙ path-at folder entries j d second)))
          (λ i j d before short e.
          let within : j < length entries = omega arith in
          apart tree place kept walk inside i before (get_or entries j blank).name (each j blank within).segment (ap (λ (x : Kept). x.path) (get_or_default kept i root d before) ∙ e ∙ path-at folder entries j d within));
    }

-- ---- the entries of a folder are kept

-- an entry that was kept, or that stands below one that isn't listed, still is and does
abbrev IsReached : ℕ → List Kept → List ℕ → Type 0
IsReached listed kept path = Any (λ entry. entry.path ≡ path) kept ⊎ ((k : ℕ) × (listed ≤ k) × (k < length kept) × IsBelow path (get_or kept k root).path)

abbrev AllReached : Tree → ℕ → List Kept → Type 0
AllReached tree listed kept = (path : List ℕ) → IsEntryPath tree path → IsReached listed kept path

-- where an entry of the folder is kept
new-at : (kept : List Kept) (folder : List ℕ) (entries : List DirEntry) (m : ℕ) (entry : DirEntry) (d : Kept) → m < length entries → get_or entries m entry ≡ entry → get_or (kept ++ map (entry_in folder) entries) (length kept + m) d ≡ entry_in folder entry
new-at kept folder entries m entry d inside is =
    get_or-append-add kept (map (entry_in folder) entries) m d ∙ get_or-map (entry_in folder) entries m entry d inside ∙ ap (entry_in folder) is

first-reached : (tree : Tree) (place : ℕ) (kept : List Kept) → place < length kept → (folder : List ℕ) (entries : List DirEntry) → AreEntries tree folder entries → (path : List ℕ) → FirstBelow tree folder path → IsReached (place + 1) (kept ++ map (entry_in folder) entries) path
first-reached tree place kept inside folder entries own path first =
    let entry : DirEntry = record { name = first.name; kind = first.kind } in
    let at = own.all entry (record { segment = first.segment; there = first.there }) in
    let few : length kept + at.0 < length (kept ++ map (entry_in folder) entries) = omega (arith, length-append kept (map (entry_in folder) entries), length-map entries (entry_in folder), at.1) in
    from entry at.0 at.1 at.2 few first.way
  where
    from : (entry : DirEntry) (m : ℕ) → m < length entries → get_or entries m entry ≡ entry → length kept + m < length (kept ++ map (entry_in folder) entries) → (path ≡ child_of folder entry.name) ⊎ IsBelow path (child_of folder entry.name) → IsReached (place + 1) (kept ++ map (entry_in folder) entries) path
    from entry m short is few (inl e) = inl (length kept + m, entry_in folder entry, few, new-at kept folder entries m entry (entry_in folder entry) short is, sym e)
    from entry m short is few (inr below) = inr (length kept + m, omega arith, few, subst (λ (x : Kept). IsBelow path x.path) (sym (new-at kept folder entries m entry root short is)) below)

reached : (tree : Tree) → IsTree tree → (place : ℕ) (kept : List Kept) → place < length kept → (entries : List DirEntry) → AreEntries tree (get_or kept place root).path entries → (path : List ℕ) → IsEntryPath tree path → IsReached place kept path → IsReached (place + 1) (kept ++ map (entry_in (get_or kept place root).path) entries) path
reached tree is place kept inside entries own path entry (inl any) =
    let new = map (entry_in (get_or kept place root).path) entries in
    inl (any.0, any.1, omega (arith, length-append kept new, any.2), get_or_append_left kept new any.1 any.0 any.2 ∙ any.3, any.4)
reached tree is place kept inside entries own path entry (inr below) = from (cases_lt place below.0)
  where
    from : (place < below.0) ⊎ (below.0 ≤ place) → IsReached (place + 1) (kept ++ map (entry_in (get_or kept place root).path) entries) path
    from (inl later) =
        let new = map (entry_in (get_or kept place root).path) entries in
        inr (below.0, omega arith, omega (arith, length-append kept new, below.2), subst (λ (x : Kept). IsBelow path x.path) (sym (get_or_append_left kept new root below.0 below.2)) below.3)
    from (inr earlier) =
        let here : below.0 ≡ place = omega (arith, below.1) in
        first-reached tree place kept inside (get_or kept place root).path entries own path
        (first_below tree is (get_or kept place root).path path entry (subst (λ k. IsBelow path (get_or kept k root).path) here below.3))

IsParent : List Kept → ℕ → ℕ → Type 0
IsParent kept listed k = (j : ℕ) × (j < listed) × ((get_or kept j root).path ≡ parent_of (get_or kept k root).path)

parents : (tree : Tree) (place : ℕ) (kept : List Kept) → IsWalk tree place kept → place < length kept → (entries : List DirEntry) → All (IsEntry tree (get_or kept place root).path) entries → (k : ℕ) → 0 < k → k < length (kept ++ map (entry_in (get_or kept place root).path) entries) → (k < length kept) ⊎ (length kept ≤ k) → (j : ℕ) × (j < place + 1) × ((get_or (kept ++ map (entry_in (get_or kept place root).path) entries) j root).path ≡ parent_of (get_or (kept ++ map (entry_in (get_or kept place root).path) entries) k root).path)
parents tree place kept walk inside entries each k above within (inl old) =
    let new = map (entry_in (get_or kept place root).path) entries in
    let up = walk.parents k above old in
    (up.0, omega (arith, up.1), ap (λ (x : Kept). x.path) (get_or_append_left kept new root up.0 (omega (arith, up.1))) ∙ up.2 ∙ ap (λ (x : Kept). parent_of x.path) (sym (get_or_append_left kept new root k old)))
parents tree place kept walk inside entries each k above within (inr late) =
    let folder = (get_or kept place root).path in
    let new = map (entry_in folder) entries in
    let short : k - length kept < length entries = omega (arith, length-append kept new, length-map entries (entry_in folder)) in
    let at : (get_or (kept ++ new) k root).path ≡ child_of folder (get_or entries (k - length kept) blank).name =
    ap (λ (x : Kept). x.path) (get_or-append_right kept new (length kept) k root refl late) ∙ path-at folder entries (k - length kept) root short in (
      place,
      omega arith,
      ap (λ (x : Kept). x.path) (get_or_append_left kept new root place inside)
          ∙ sym (parent_of-child folder (get_or entries (k - length kept) blank).name (each (k - length kept) blank short).segment) ∙ ap parent_of (sym at),
    )

-- a walk over a folder
pub step_folder : (tree : Tree) → IsTree tree → (place : ℕ) (kept new : List Kept) → IsWalk tree place kept → place < length kept → (entries : List DirEntry) → AreEntries tree (get_or kept place root).path entries → HasKept (get_or kept place root).path entries kept new → IsWalk tree (place + 1) new
step_folder tree is place kept new walk inside entries own has =
    let folder = (get_or kept place root).path in
    let more = kept_in-entries tree folder entries own.each in
    let all = are_kept tree place kept walk inside entries own.each own.once in
    let whole : IsWalk tree (place + 1) (kept ++ map (entry_in folder) entries) = record {
      within = omega (arith, length-append kept (map (entry_in folder) entries));
      from_root = all.from_root;
      there = all.there;
      once = all.once;
      parents = λ k above within. parents tree place kept walk inside entries own.each k above within (cases_lt k (length kept));
      all = λ path entry. reached tree is place kept inside entries own path entry (walk.all path entry);
    } in
    subst (IsWalk tree (place + 1)) (ap (λ xs. kept ++ xs) (sym more) ∙ sym has.kept) whole

-- a walk past a file: nothing stands below it
past-file : (tree : Tree) → IsTree tree → (place : ℕ) (kept : List Kept) → is_some (bytes_at tree (get_or kept place root).path) ≡ true → (path : List ℕ) → IsEntryPath tree path → IsReached place kept path → IsReached (place + 1) kept path
past-file tree is place kept file path entry (inl any) = inl any
past-file tree is place kept file path entry (inr below) = from (cases_lt place below.0)
  where
    from : (place < below.0) ⊎ (below.0 ≤ place) → IsReached (place + 1) kept path
    from (inl later) = inr (below.0, omega arith, below.2, below.3)
    from (inr earlier) =
        let here : below.0 ≡ place = omega (arith, below.1) in
        absurd (none-below_file tree is path (get_or kept place root).path entry file (subst (λ k. IsBelow path (get_or kept k root).path) here below.3))

pub step_file : (tree : Tree) → IsTree tree → (place : ℕ) (kept : List Kept) (size : ℕ) → IsWalk tree place kept → place < length kept → (get_or kept place root).kind ≡ File size → IsWalk tree (place + 1) kept
step_file tree is place kept size walk inside kind =
    let content = file_given (bytes_at tree (get_or kept place root).path) (is_folder tree (get_or kept place root).path) size (walk.there place root inside ∙ ap (λ x. Some x) kind) in
    record {
      within = omega arith;
      from_root = walk.from_root;
      there = walk.there;
      once = walk.once;
      parents = λ k above within. (let up = walk.parents k above within in (up.0, omega (arith, up.1), up.2));
      all = λ path entry. past-file tree is place kept (ap is_some content.1) path entry (walk.all path entry);
    }

root_kind : (bytes : Option (List ℕ)) → (is_some bytes ≡ true → ⊥) → kind_of bytes true ≡ Some Folder
root_kind (Some bytes) none = absurd (none refl)
root_kind None none = refl

-- the walk begins with the root alone, and all else stands below it
pub start : (tree : Tree) → IsTree tree → IsWalk tree 0 (root ∷ [])
start tree is = record {
  within = omega arith;
  from_root = ([], refl);
  there = All-cons (Stands tree) root [] (root_kind (bytes_at tree []) (λ file. entry-full tree is [] (or_left (is_some (bytes_at tree [])) _ file) refl)) (All-nil (Stands tree));
  once = λ i j d low high. absurd (omega arith);
  parents = λ k above within. absurd (omega arith);
  all = λ path entry. inr (0, omega arith, omega arith, (path, refl));
}
