-- What a tree has at a path: its files and folders, their paths, and what stands first below a folder.
use Rattle.std.proofs.Common.{◌≡◌, ℕ, ◌<◌, Bool, true, false, not, bytes_eq, List, [], ◌∷◌, ◌++◌, length, get_or, drop, Option, Some, None, ◌⊎◌, refl, sym, ap, ◌∙◌, subst, inl, inr}
use Rattle.std.proofs.lemmas.Bool.{and_parts, or_cases, or_right, not-true, not_from_false, false_from_ne_true, both_ways, true_from_ne_false}
use Rattle.std.proofs.lemmas.Bool.Decides.{Decides-eqb}
use Rattle.std.proofs.lemmas.List.{append_assoc, append-nil, get_or_default}
use Rattle.std.proofs.lemmas.List.Folds.{Any-from_list_any, list_any_at, list_all_at}
use Rattle.std.proofs.lemmas.Map.Lookups.{exact_bytes}
use Rattle.std.proofs.lemmas.Slice.Eq.{starts_is, bytes_eq-Decides}
use Rattle.std.specs.Cmp.Lexicographic.{slice_cmp}
use Rattle.std.specs.FinMap.Entries.{is_some-find}
use Rattle.std.specs.List.{list_any, starts_with}
use Rattle.std.specs.Ordering.{nat_cmp, is_eq, eq_by_cmp}
use Rattle.std.specs.Prelude.{IsTrue, is_some, ◌||◌, ◌&&◌, nat_eq}
use Rattle.std.specs.declared.cmp.Ordering.{Ordering}
use Rattle.std.specs.declared.cmp.Ordering.TheVariants.{Less, Equal, Greater}
use Rattle.path_text.specs.Child.{IsSegment, child_of}
use Rattle.path_text.specs.Path.{is_normal, is_slash, IsNormal}
use Rattle.outside.specs.Reads.{kind_of, kind_at}
use Rattle.outside.specs.Tree.{Tree, IsTree, bytes_at, files_of, within, has_file_within, is_folder}
use Rattle.outside.specs.declared.entry.EntryKind.{EntryKind}
use Rattle.outside.specs.declared.entry.EntryKind.TheVariants.{File, Folder}
use Rattle.tree_listing.specs.Limits.{IsEntryPath}
use Rattle.tree_listing.specs.inner.Walk.{IsBelow}
use Rattle.tree_listing.proofs.Paths.{cut, within-child, within-full, segment-from, normal-below, normal-parts, not_normal, child-is_entry}

-- ---- texts that begin with another

begins : (text front : List ℕ) → starts_with nat_eq text front ≡ true → text ≡ front ++ drop (length front) text
begins text front h = (starts_is Decides-eqb text front (starts_with nat_eq text front) refl).0 h

begins_from : (text front rest : List ℕ) → text ≡ front ++ rest → starts_with nat_eq text front ≡ true
begins_from text front rest e = (starts_is Decides-eqb text front (starts_with nat_eq text front) refl).1 rest e

-- ---- the files of a tree

pub equal : (o : Ordering) → is_eq o ≡ true → o ≡ Equal
equal Less h = cc
equal Equal h = refl
equal Greater h = cc

-- some file's path is the path, or stands below it
pub record HasFileAt (tree : Tree) (path : List ℕ) : Type 0 where
  pub place : ℕ
  pub inside : place < length (files_of tree)
  pub tail : List ℕ
  pub is : get_or (files_of tree) place [] ≡ path ++ tail
  pub cut : (tail ≡ []) ⊎ ((rest : List ℕ) × (tail ≡ 47 ∷ rest))

file_at : (tree : Tree) (path : List ℕ) → is_some (bytes_at tree path) ≡ true → HasFileAt tree path
file_at tree path h =
    let found = Any-from_list_any (eq_by_cmp (slice_cmp nat_cmp) path) (files_of tree) (sym (is_some-find (slice_cmp nat_cmp) path tree) ∙ h) in
    record {
      place = found.0;
      inside = found.2;
      tail = [];
      is = get_or_default (files_of tree) found.0 [] found.1 found.2 ∙ found.3 ∙ sym (exact_bytes path found.1 (equal _ found.4)) ∙ sym (append-nil path);
      cut = inl refl;
    }

file_below : (tree : Tree) (path : List ℕ) → (path ≡ [] → ⊥) → has_file_within tree path ≡ true → HasFileAt tree path
file_below tree path full h =
    let found = Any-from_list_any (λ file. starts_with nat_eq file (within path)) (files_of tree) h in
    let rest = drop (length (within path)) found.1 in
    record {
      place = found.0;
      inside = found.2;
      tail = 47 ∷ rest;
      is = get_or_default (files_of tree) found.0 [] found.1 found.2 ∙ found.3 ∙ begins found.1 (within path) found.4 ∙ ap (λ xs. xs ++ rest) (within-full path full) ∙ append_assoc path (47 ∷ []) rest;
      cut = inr (rest, refl);
    }

not_root : (path : List ℕ) (b : Bool) → (not (bytes_eq path []) && b) ≡ true → (path ≡ [] → ⊥) × (b ≡ true)
not_root path b h =
    let parts = and_parts (not (bytes_eq path [])) b h in
    (λ e. both_ways (bytes_eq path []) (not-true _ parts.0) ((bytes_eq-Decides path []).1 e), parts.1)

pub entry-file : (tree : Tree) (path : List ℕ) → IsEntryPath tree path → HasFileAt tree path
entry-file tree path entry = from (or_cases (is_some (bytes_at tree path)) (not (bytes_eq path []) && has_file_within tree path) entry)
  where
    from : (is_some (bytes_at tree path) ≡ true) ⊎ ((not (bytes_eq path []) && has_file_within tree path) ≡ true) → HasFileAt tree path
    from (inl h) = file_at tree path h
    from (inr h) = let parts = not_root path (has_file_within tree path) h in file_below tree path parts.0 parts.1

file-normal : (tree : Tree) → IsTree tree → (place : ℕ) → place < length (files_of tree) → IsNormal (get_or (files_of tree) place [])
file-normal tree is place inside = true_from_ne_false _ (λ no. both_ways _ (list_all_at is_normal (files_of tree) place [] inside no) is.normal)

-- the path of an entry is normal, and isn't the root
normal_at : (path tail : List ℕ) → IsNormal (path ++ tail) → (tail ≡ []) ⊎ ((rest : List ℕ) × (tail ≡ 47 ∷ rest)) → IsNormal path
normal_at path tail normal (inl e) = subst IsNormal (ap (λ xs. path ++ xs) e ∙ append-nil path) normal
normal_at path tail normal (inr more) = (normal-parts path more.0 (subst IsNormal (ap (λ xs. path ++ xs) more.1) normal)).0

pub entry-normal : (tree : Tree) → IsTree tree → (path : List ℕ) → IsEntryPath tree path → IsNormal path
entry-normal tree is path entry =
    let file = entry-file tree path entry in
    normal_at path file.tail (subst IsNormal file.is (file-normal tree is file.place file.inside)) file.cut

pub entry-full : (tree : Tree) → IsTree tree → (path : List ℕ) → IsEntryPath tree path → path ≡ [] → ⊥
entry-full tree is path entry e = not_normal (subst IsNormal e (entry-normal tree is path entry))

-- ---- kinds

some_kind : (bytes : Option (List ℕ)) (folder : Bool) → (is_some bytes || folder) ≡ true → (kind : EntryKind) × (kind_of bytes folder ≡ Some kind)
some_kind (Some bytes) folder h = (File (length bytes), refl)
some_kind None true h = (Folder, refl)
some_kind None false h = cc

kind_given : (bytes : Option (List ℕ)) (folder : Bool) (kind : EntryKind) → kind_of bytes folder ≡ Some kind → (is_some bytes || folder) ≡ true
kind_given (Some bytes) folder kind h = refl
kind_given None true kind h = refl
kind_given None false kind h = cc

pub folder_given : (bytes : Option (List ℕ)) (folder : Bool) → kind_of bytes folder ≡ Some Folder → (bytes ≡ None) × (folder ≡ true)
folder_given (Some bytes) folder h = cc
folder_given None true h = (refl, refl)
folder_given None false h = cc

pub file_given : (bytes : Option (List ℕ)) (folder : Bool) (size : ℕ) → kind_of bytes folder ≡ Some (File size) → (content : List ℕ) × (bytes ≡ Some content) × (size ≡ length content)
file_given (Some bytes) folder size h = (bytes, refl, (let same : length bytes ≡ size = cc in sym same))
file_given None true size h = cc
file_given None false size h = cc

pub is_folder-full : (tree : Tree) (path : List ℕ) → (path ≡ [] → ⊥) → is_folder tree path ≡ has_file_within tree path
is_folder-full tree [] full = absurd (full refl)
is_folder-full tree (byte ∷ bytes) full = refl

pub not-root : (path : List ℕ) → (path ≡ [] → ⊥) → not (bytes_eq path []) ≡ true
not-root path full = not_from_false _ (false_from_ne_true _ (λ e. full ((bytes_eq-Decides path []).0 e)))

-- an entry's path has a kind, and what has a kind and isn't the root is an entry's path
pub entry-kind : (tree : Tree) → IsTree tree → (path : List ℕ) → IsEntryPath tree path → (kind : EntryKind) × (kind_at tree path ≡ Some kind)
entry-kind tree is path entry =
    let full = entry-full tree is path entry in
    some_kind (bytes_at tree path) (is_folder tree path) (subst IsTrue (ap (λ b. is_some (bytes_at tree path) || b) (ap (λ b. b && has_file_within tree path) (not-root path full) ∙ sym (is_folder-full tree path full))) entry)

pub kind-entry : (tree : Tree) (path : List ℕ) (kind : EntryKind) → (path ≡ [] → ⊥) → kind_at tree path ≡ Some kind → IsEntryPath tree path
kind-entry tree path kind full h =
    subst IsTrue (ap (λ b. is_some (bytes_at tree path) || b) (is_folder-full tree path full ∙ sym (ap (λ b. b && has_file_within tree path) (not-root path full)))) (kind_given (bytes_at tree path) (is_folder tree path) kind h)

-- ---- what stands below a file or a folder

-- the file at a place whose path begins with a folder's shows the folder
pub file_within : (tree : Tree) (folder : List ℕ) (place : ℕ) (rest : List ℕ) → place < length (files_of tree) → get_or (files_of tree) place [] ≡ within folder ++ rest → has_file_within tree folder ≡ true
file_within tree folder place rest inside e =
    list_any_at (λ path. starts_with nat_eq path (within folder)) (files_of tree) place [] inside (begins_from (get_or (files_of tree) place []) (within folder) rest e)

-- no file is a folder
pub file-alone : (tree : Tree) → IsTree tree → (path : List ℕ) → is_some (bytes_at tree path) ≡ true → has_file_within tree path ≡ true → ⊥
file-alone tree is path file folder =
    let found = Any-from_list_any (eq_by_cmp (slice_cmp nat_cmp) path) (files_of tree) (sym (is_some-find (slice_cmp nat_cmp) path tree) ∙ file) in
    let same : get_or (files_of tree) found.0 [] ≡ path = get_or_default (files_of tree) found.0 [] found.1 found.2 ∙ found.3 ∙ sym (exact_bytes path found.1 (equal _ found.4)) in
    both_ways _ (list_all_at (λ path. not (has_file_within tree path)) (files_of tree) found.0 [] found.2 (ap (λ x. not (has_file_within tree x)) same ∙ ap not folder)) is.apart

-- what stands first on the way from a folder to an entry below it
pub record FirstBelow (tree : Tree) (folder path : List ℕ) : Type 0 where
  pub name : List ℕ
  pub kind : EntryKind
  pub segment : IsSegment name
  pub there : kind_at tree (child_of folder name) ≡ Some kind
  pub way : (path ≡ child_of folder name) ⊎ IsBelow path (child_of folder name)

pub first_below : (tree : Tree) → IsTree tree → (folder path : List ℕ) → IsEntryPath tree path → IsBelow path folder → FirstBelow tree folder path
first_below tree is folder path entry below =
    let rest = below.0 in
    let normal : IsNormal rest = normal-below folder rest (subst IsNormal below.1 (entry-normal tree is path entry)) in
    let parts = cut rest in
    from parts.name parts.whole rest parts.is below.1 normal
  where
    from : (name : List ℕ) → list_any is_slash name ≡ false → (rest : List ℕ) → (rest ≡ name) ⊎ ((more : List ℕ) × (rest ≡ name ++ 47 ∷ more)) → path ≡ within folder ++ rest → IsNormal rest → FirstBelow tree folder path
    from name whole rest (inl e) here normal =
        let same : path ≡ child_of folder name = here ∙ ap (λ xs. within folder ++ xs) e ∙ within-child folder name in
        let kind = entry-kind tree is path entry in
        record {
          name = name;
          kind = kind.0;
          segment = segment-from name (subst IsNormal e normal) whole;
          there = subst (λ xs. kind_at tree xs ≡ Some kind.0) same kind.1;
          way = inl same;
        }
    from name whole rest (inr more) here normal =
        let own : IsSegment name = segment-from name (normal-parts name more.0 (subst IsNormal more.1 normal)).0 whole in
        let child = child_of folder name in
        let full = child-is_entry folder name own in
        let below_child : path ≡ within child ++ more.0 =
        here ∙ ap (λ xs. within folder ++ xs) more.1 ∙ sym (append_assoc (within folder) name (47 ∷ more.0)) ∙ ap (λ xs. xs ++ 47 ∷ more.0) (within-child folder name)
        ∙ sym (append_assoc child (47 ∷ []) more.0) ∙ ap (λ xs. xs ++ more.0) (sym (within-full child full)) in
        let file = entry-file tree path entry in
        let shown : has_file_within tree child ≡ true = file_within tree child file.place (more.0 ++ file.tail) file.inside (file.is ∙ ap (λ xs. xs ++ file.tail) below_child ∙ append_assoc (within child) more.0 file.tail) in
        let kind = some_kind (bytes_at tree child) (is_folder tree child) (or_right (is_some (bytes_at tree child)) (is_folder tree child) (is_folder-full tree child full ∙ shown)) in
        record { name = name; kind = kind.0; segment = own; there = kind.1; way = inr (more.0, below_child) }

-- nothing stands below a file
pub none-below_file : (tree : Tree) → IsTree tree → (path file : List ℕ) → IsEntryPath tree path → is_some (bytes_at tree file) ≡ true → IsBelow path file → ⊥
none-below_file tree is path file entry own below =
    let shown = entry-file tree path entry in
    file-alone tree is file own (file_within tree file shown.place (below.0 ++ shown.tail) shown.inside (shown.is ∙ ap (λ xs. xs ++ shown.tail) below.1 ∙ append_assoc (within file) below.0 shown.tail))
