-- A walk over a tree's files gives the entries of a folder.
use Rattle.std.proofs.Common.{◌≡◌, ◌≢◌, ℕ, ◌-◌, Bool, true, false, not, cond, ◌&&◌, ◌==◌, nat_eq, List, [], ◌∷◌, ◌++◌, length, drop, get_or, filter, fold, Some, None, Option, refl, sym, ap, ◌∙◌, subst, arith, ◌⊎◌, inl, inr, ⊎_elim, slice_get, Contains, append_assoc, append-nil, length-append}
use Rattle.std.proofs.lemmas.Bool.{and_parts, both_ways, false_from_ne_true, not-true}
use Rattle.std.proofs.lemmas.List.Elements.{Contains-append_left, Contains-push, Contains-push_cases, Contains-get_or, All-weaker, All-contains_itself}
use Rattle.std.proofs.lemmas.List.{get_or_at}
use Rattle.std.proofs.lemmas.List.Quantifiers.{all_pairs_push}
use Rattle.std.proofs.lemmas.Option.{get_or_from_slice_get, same_Some, slice_get_read, slice_get_within}
use Rattle.std.proofs.lemmas.Slice.Eq.{bytes_eq-Decides}
use Rattle.std.specs.List.{list_any, starts_with, AllPairs, before_first, after_first}
use Rattle.std.specs.FinMap.Entries.{find, is_sorted}
use Rattle.std.specs.Ordering.{is_lt}
use Rattle.path_text.specs.Child.{IsSegment, child_of}
use Rattle.path_text.specs.Path.{is_slash, is_normal}
use Rattle.outside.specs.inner.Cut.{has_prefix}
use Rattle.outside.specs.Reads.{IsEntry, AreEntries, kind_at, kind_of}
use Rattle.outside.specs.Tree.{Tree, IsTree, is_folder, has_file_within, within}
use Rattle.outside.specs.inner.Walk.{child_in, with_entry, is_named, is_last_name, is_folder_kind, kind_of_rest}
use Rattle.outside.specs.declared.entry.DirEntry.{DirEntry}
use Rattle.outside.specs.declared.entry.EntryKind.{EntryKind}
use Rattle.outside.specs.declared.entry.EntryKind.TheVariants.{File, Folder}
use Rattle.outside.proofs.Orders.{order, before_trans, prefix_not_before, between}
use Rattle.outside.proofs.Members.{Contains-from_filter, Contains-filter, member_is_found, found_is_member, any_member, member_passes_any, member_passes_all, earlier_is_before, before_is_other, is_sorted-filter}
use Rattle.outside.proofs.Names.{has_no_slash, IsNameAlone, HasNameBefore, name_cases, name_is_segment, child_within, child_is_full, segment_has_no_slash, entry_alone, entry_before, IsChild, child_parts, child_from}
use Rattle.outside.proofs.Within.{starts_from, starts_to, starts_within, slash_after, not_root, folder_is_held, begins_within}

-- ---- what stands at a path

kind_of_file : (tree : Tree) (path bytes : List ℕ) → find order path tree ≡ Some bytes → kind_at tree path ≡ Some (File (length bytes))
kind_of_file tree path bytes found = ap (λ o. kind_of o (is_folder tree path)) found

kind_of_folder : (tree : Tree) (path : List ℕ) (o : Option (List ℕ)) → IsTree tree → (length path == 0) ≡ false → has_file_within tree path ≡ true → find order path tree ≡ o → kind_at tree path ≡ Some Folder
kind_of_folder tree path None is full held found =
    ap (λ o. kind_of o (is_folder tree path)) found ∙ ap (λ b. kind_of None b) (folder_is_held tree path full ∙ held)
kind_of_folder tree path (Some bytes) is full held found =
    let apart : not (has_file_within tree path) ≡ true = member_passes_all (λ p. not (has_file_within tree p)) tree (path, bytes) (found_is_member tree path bytes found) is.apart in
    absurd (both_ways _ (not-true _ apart) held)

-- ---- what a file gives is an entry

kind_of_child : (tree : Tree) (folder : List ℕ) (file : List ℕ × List ℕ) (rest : List ℕ) → IsTree tree → Contains tree file → file.0 ≡ within folder ++ rest → IsSegment (before_first is_slash rest) → kind_at tree (child_of folder (before_first is_slash rest)) ≡ Some (kind_of_rest rest (length file.1))
kind_of_child tree folder file rest is among path own = ⊎_elim alone before (name_cases rest (length file.1))
  where
    alone : IsNameAlone rest (length file.1) → kind_at tree (child_of folder (before_first is_slash rest)) ≡ Some (kind_of_rest rest (length file.1))
    alone name =
        let same : child_of folder (before_first is_slash rest) ≡ file.0 = child_within folder (before_first is_slash rest) ∙ ap (λ n. within folder ++ n) name.name ∙ sym path in
        ap (kind_at tree) same ∙ kind_of_file tree file.0 file.1 (member_is_found tree file is.sorted among) ∙ ap (λ k. Some k) (sym name.kind)

    before : HasNameBefore rest (length file.1) → kind_at tree (child_of folder (before_first is_slash rest)) ≡ Some (kind_of_rest rest (length file.1))
    before name =
        let child = child_of folder (before_first is_slash rest) in
        let more = after_first is_slash rest in
        let parts : file.0 ≡ child ++ 47 ∷ more =
        path ∙ ap (λ r. within folder ++ r) name.parts ∙ sym (append_assoc (within folder) (before_first is_slash rest) (47 ∷ more)) ∙ ap (λ c. c ++ 47 ∷ more) (sym (child_within folder (before_first is_slash rest))) in
        let begins : starts_with nat_eq file.0 (within child) ≡ true = subst (λ p. starts_with nat_eq p (within child) ≡ true) (sym parts) (starts_within child more) in
        let held : has_file_within tree child ≡ true = member_passes_any (λ p. starts_with nat_eq p (within child)) tree file among begins in
        kind_of_folder tree child (find order child tree) is (child_is_full folder (before_first is_slash rest) own) held refl ∙ ap (λ k. Some k) (sym name.kind)

child_is_entry : (tree : Tree) (folder : List ℕ) (file : List ℕ × List ℕ) (entry : DirEntry) → IsTree tree → Contains tree file → child_in folder file ≡ Some entry → IsEntry tree folder entry
child_is_entry tree folder file entry is among e =
    let child = child_parts folder file entry e in
    let normal : is_normal (within folder ++ child.rest) ≡ true = subst (λ p. is_normal p ≡ true) child.path (member_passes_all is_normal tree file among is.normal) in
    let own = name_is_segment folder child.rest normal in
    subst (IsEntry tree folder) child.entry_is (record { segment = own; there = kind_of_child tree folder file child.rest is among child.path own })

-- ---- each entry is given by a file

record IsGiven (tree : Tree) (folder : List ℕ) (entry : DirEntry) : Type 0 where
  file : List ℕ × List ℕ
  among : Contains tree file
  child : child_in folder file ≡ Some entry

given_at : (tree : Tree) (folder : List ℕ) (entry : DirEntry) (o : Option (List ℕ)) (held : Bool) → IsSegment entry.name → find order (child_of folder entry.name) tree ≡ o → has_file_within tree (child_of folder entry.name) ≡ held → kind_of o held ≡ Some entry.kind → IsGiven tree folder entry
given_at tree folder entry (Some bytes) held own found held_is e =
    let child = child_of folder entry.name in
    let kind : File (length bytes) ≡ entry.kind = cc in
    record {
      file = (child, bytes);
      among = found_is_member tree child bytes found;
      child = child_from folder (child, bytes) entry.name (child_within folder entry.name)
          ∙ ap (λ x. Some x) (entry_alone entry.name (length bytes) (segment_has_no_slash entry.name own) ∙ (λ i. record { name = entry.name; kind = kind i }));
    }
given_at tree folder entry None true own found held_is e =
    let child = child_of folder entry.name in
    let kind : Folder ≡ entry.kind = cc in
    let file = any_member (λ p. starts_with nat_eq p (within child)) tree held_is in
    let slash : within child ≡ child ++ 47 ∷ [] = not_root child (child_is_full folder entry.name own) in
    let more = drop (length (within child)) file.0.0 in
    let parts : file.0.0 ≡ within folder ++ (entry.name ++ 47 ∷ more) =
    starts_to file.0.0 (within child) file.2 ∙ ap (λ w. w ++ more) slash ∙ slash_after child more ∙ ap (λ c. c ++ 47 ∷ more) (child_within folder entry.name) ∙ append_assoc (within folder) entry.name (47 ∷ more) in
    record {
      file = file.0;
      among = file.1;
      child = child_from folder file.0 (entry.name ++ 47 ∷ more) parts
          ∙ ap (λ x. Some x) (entry_before entry.name more (length file.0.1) (segment_has_no_slash entry.name own) ∙ (λ i. record { name = entry.name; kind = kind i }));
    }
given_at tree folder entry None false own found held_is e = cc

entry_is_given : (tree : Tree) (folder : List ℕ) (entry : DirEntry) → IsEntry tree folder entry → IsGiven tree folder entry
entry_is_given tree folder entry is =
    let child = child_of folder entry.name in
    given_at tree folder entry (find order child tree) (has_file_within tree child) is.segment refl refl
    (ap (kind_of (find order child tree)) (sym (folder_is_held tree child (child_is_full folder entry.name is.segment))) ∙ is.there)

same_entry : (tree : Tree) (folder : List ℕ) (one other : DirEntry) → IsEntry tree folder one → IsEntry tree folder other → one.name ≡ other.name → one ≡ other
same_entry tree folder one other is_one is_other names =
    let kinds : Some one.kind ≡ Some other.kind = sym is_one.there ∙ ap (λ n. kind_at tree (child_of folder n)) names ∙ is_other.there in
    let kind : one.kind ≡ other.kind = cc in
    λ i. record { name = names i; kind = kind i }

-- ---- the walk

abbrev walk : List ℕ → List DirEntry → Tree → List DirEntry
walk folder entries files = fold (λ es file. with_entry es (child_in folder file)) entries files

abbrev OtherName : DirEntry → DirEntry → Type 0
OtherName one other = one.name ≢ other.name

abbrev IsLast : List DirEntry → DirEntry → Type 0
IsLast entries entry = slice_get entries (length entries - 1) ≡ Some entry

-- what the paths of all files of an entry that is a folder begin with
abbrev front : List ℕ → DirEntry → List ℕ
front folder entry = within folder ++ (entry.name ++ 47 ∷ [])

-- some file stands past those of an entry that is a folder
record IsPassed (folder : List ℕ) (done : Tree) (entry : DirEntry) : Type 0 where
  file : List ℕ × List ℕ
  among : Contains done file
  past : is_lt (order file.0 (front folder entry)) ≡ false
  outside : starts_with nat_eq file.0 (front folder entry) ≡ false

-- The entries that the files so far give: each is given by one, each one gives one of them, and none twice. One that is
-- a folder is the last, or its files are passed.
record AreGiven (folder : List ℕ) (done : Tree) (entries : List DirEntry) : Type 0 where
  from : (entry : DirEntry) → Contains entries entry → IsGiven done folder entry
  all : (file : List ℕ × List ℕ) → Contains done file → (entry : DirEntry) → child_in folder file ≡ Some entry → Contains entries entry
  once : AllPairs OtherName entries
  latest : (file : List ℕ × List ℕ) → Contains done file → (entry : DirEntry) → child_in folder file ≡ Some entry → is_folder_kind entry.kind ≡ true → IsLast entries entry ⊎ IsPassed folder done entry

later : (folder : List ℕ) (done : Tree) (file : List ℕ × List ℕ) (entry : DirEntry) → IsGiven done folder entry → IsGiven (done ++ file ∷ []) folder entry
later folder done file entry given = record { file = given.file; among = Contains-append_left done (file ∷ []) given.file given.among; child = given.child }

-- an entry of a file stands at the file's own path
path_of_file : (folder : List ℕ) (file : List ℕ × List ℕ) (entry : DirEntry) → child_in folder file ≡ Some entry → is_folder_kind entry.kind ≡ false → file.0 ≡ within folder ++ entry.name
path_of_file folder file entry e other = by (child_parts folder file entry e)
  where
    by : IsChild folder file entry → file.0 ≡ within folder ++ entry.name
    by child = ⊎_elim
        (λ alone. child.path ∙ ap (λ n. within folder ++ n) (sym alone.name ∙ ap (λ x. x.name) child.entry_is))
        (λ before. absurd (both_ways _ other (ap is_folder_kind (ap (λ x. x.kind) (sym child.entry_is) ∙ before.kind))))
        (name_cases child.rest (length file.1))

-- what the step needs of the tree that is walked
record IsNext (tree : Tree) (folder : List ℕ) (done : Tree) (file : List ℕ × List ℕ) : Type 0 where
  is_tree : IsTree tree
  done_among : (other : List ℕ × List ℕ) → Contains done other → Contains tree other
  among : Contains tree file
  before : (earlier : List ℕ × List ℕ) → Contains done earlier → is_lt (order earlier.0 file.0) ≡ true

entry_of_given : (tree : Tree) (folder : List ℕ) (done : Tree) (file : List ℕ × List ℕ) (entry : DirEntry) → IsNext tree folder done file → IsGiven done folder entry → IsEntry tree folder entry
entry_of_given tree folder done file entry next given =
    child_is_entry tree folder given.file entry next.is_tree (next.done_among given.file given.among) given.child

-- an entry that has the name of the new one is the new one
same_name : (tree : Tree) (folder : List ℕ) (done : Tree) (file : List ℕ × List ℕ) (entries : List DirEntry) (new entry : DirEntry) → IsNext tree folder done file → AreGiven folder done entries → child_in folder file ≡ Some new → Contains entries entry → entry.name ≡ new.name → entry ≡ new
same_name tree folder done file entries new entry next given is among names =
    same_entry tree folder entry new (entry_of_given tree folder done file entry next (given.from entry among)) (child_is_entry tree folder file new next.is_tree next.among is) names

-- ---- the files of a folder stand together

later_passed : (folder : List ℕ) (done : Tree) (file : List ℕ × List ℕ) (entry : DirEntry) → IsPassed folder done entry → IsPassed folder (done ++ file ∷ []) entry
later_passed folder done file entry passed =
    record { file = passed.file; among = Contains-append_left done (file ∷ []) passed.file passed.among; past = passed.past; outside = passed.outside }

still : (folder : List ℕ) (done : Tree) (file : List ℕ × List ℕ) (entries : List DirEntry) (entry : DirEntry) → IsLast entries entry ⊎ IsPassed folder done entry → IsLast entries entry ⊎ IsPassed folder (done ++ file ∷ []) entry
still folder done file entries entry = ⊎_elim (λ last. inl last) (λ passed. inr (later_passed folder done file entry passed))

-- a file of a folder begins with its front
begins_front : (folder : List ℕ) (file : List ℕ × List ℕ) (entry : DirEntry) → child_in folder file ≡ Some entry → is_folder_kind entry.kind ≡ true → starts_with nat_eq file.0 (front folder entry) ≡ true
begins_front folder file entry e is = by (child_parts folder file entry e)
  where
    by : IsChild folder file entry → starts_with nat_eq file.0 (front folder entry) ≡ true
    by child = ⊎_elim
        (λ alone. absurd (both_ways _ (ap is_folder_kind (ap (λ x. x.kind) (sym child.entry_is) ∙ alone.kind)) is))
        (λ before.
        let more = after_first is_slash child.rest in
        let name : before_first is_slash child.rest ≡ entry.name = ap (λ x. x.name) child.entry_is in
        starts_from file.0 (front folder entry) more
        (child.path ∙ ap (λ r. within folder ++ r) (before.parts ∙ ap (λ n. n ++ 47 ∷ more) name ∙ sym (slash_after entry.name more)) ∙ sym (append_assoc (within folder) (entry.name ++ 47 ∷ []) more)))
        (name_cases child.rest (length file.1))

folder_kind : (kind : EntryKind) → is_folder_kind kind ≡ true → kind ≡ Folder
folder_kind (File count) is = cc
folder_kind Folder is = refl

-- what begins with the front is a file of the folder
front_child : (folder : List ℕ) (one other : List ℕ × List ℕ) (entry : DirEntry) → child_in folder one ≡ Some entry → is_folder_kind entry.kind ≡ true → starts_with nat_eq other.0 (front folder entry) ≡ true → child_in folder other ≡ Some entry
front_child folder one other entry e is begins =
    let child = child_parts folder one entry e in
    let none : list_any is_slash entry.name ≡ false = ap (list_any is_slash) (sym (ap (λ x. x.name) child.entry_is)) ∙ has_no_slash child.rest in
    let more = drop (length (front folder entry)) other.0 in
    let parts : other.0 ≡ within folder ++ (entry.name ++ 47 ∷ more) =
    starts_to other.0 (front folder entry) begins ∙ append_assoc (within folder) (entry.name ++ 47 ∷ []) more ∙ ap (λ r. within folder ++ r) (slash_after entry.name more) in
    child_from folder other (entry.name ++ 47 ∷ more) parts
    ∙ ap (λ x. Some x) (entry_before entry.name more (length other.1) none ∙ (λ i. record { name = entry.name; kind = sym (folder_kind entry.kind is) i }))

-- the next file is past a front with which an earlier one begins
next_is_past : (one other : List ℕ) (prefix : List ℕ) → is_lt (order one other) ≡ true → starts_with nat_eq one prefix ≡ true → is_lt (order other prefix) ≡ false
next_is_past one other prefix before begins =
    false_from_ne_true _ (λ early. both_ways _ (prefix_not_before prefix one begins) (before_trans one other prefix before early))

-- no file of a folder comes where its files are passed
not_passed : (tree : Tree) (folder : List ℕ) (done : Tree) (file : List ℕ × List ℕ) (entry : DirEntry) → IsNext tree folder done file → child_in folder file ≡ Some entry → is_folder_kind entry.kind ≡ true → IsPassed folder done entry → ⊥
not_passed tree folder done file entry next e is passed =
    both_ways _ passed.outside (between (front folder entry) passed.file.0 file.0 passed.past (next.before passed.file passed.among) (begins_front folder file entry e is))

-- ---- the last entry

last_pushed : (entries : List DirEntry) (new : DirEntry) → IsLast (entries ++ new ∷ []) new
last_pushed entries new =
    let all = entries ++ new ∷ [] in
    let count : length entries ≡ length all - 1 = omega (arith, length-append entries (new ∷ [])) in
    subst (λ k. slice_get all k ≡ Some new) count
    (slice_get_read all (length all) (length entries) new refl (omega (arith, length-append entries (new ∷ []))) (sym (get_or_at entries new [] new (length entries) refl)))

is_last_named : (entries : List DirEntry) (entry : DirEntry) (name : List ℕ) → IsLast entries entry → entry.name ≡ name → is_last_name name entries ≡ true
is_last_named entries entry name last same = ap (is_named name) last ∙ (bytes_eq-Decides entry.name name).1 same

named_at : (entries : List DirEntry) (name : List ℕ) (o : Option DirEntry) → slice_get entries (length entries - 1) ≡ o → is_named name o ≡ true → (entry : DirEntry) × IsLast entries entry × (entry.name ≡ name)
named_at entries name None last named = cc
named_at entries name (Some entry) last named = (entry, last, (bytes_eq-Decides entry.name name).0 named)

last_among : (entries : List DirEntry) (entry : DirEntry) → IsLast entries entry → Contains entries entry
last_among entries entry last =
    (length entries - 1, slice_get_within entries (length entries - 1) entry last, get_or_from_slice_get entries (length entries - 1) entry entry last)

last_is_there : (tree : Tree) (folder : List ℕ) (done : Tree) (file : List ℕ × List ℕ) (entries : List DirEntry) (new : DirEntry) → IsNext tree folder done file → AreGiven folder done entries → child_in folder file ≡ Some new → is_last_name new.name entries ≡ true → IsLast entries new
last_is_there tree folder done file entries new next given is named =
    let found = named_at entries new.name (slice_get entries (length entries - 1)) refl named in
    subst (IsLast entries) (same_name tree folder done file entries new found.0 next given is (last_among entries found.0 found.1) found.2) found.1

-- no entry has the name of a new one that is added
is_new : (tree : Tree) (folder : List ℕ) (done : Tree) (file : List ℕ × List ℕ) (entries : List DirEntry) (new : DirEntry) → IsNext tree folder done file → AreGiven folder done entries → child_in folder file ≡ Some new → (is_folder_kind new.kind && is_last_name new.name entries) ≡ false → (entry : DirEntry) → Contains entries entry → entry.name ≡ new.name → ⊥
is_new tree folder done file entries new next given is unnamed entry among names =
    let one = given.from entry among in
    let same : entry ≡ new = same_name tree folder done file entries new entry next given is among names in
    at one.file one.among (one.child ∙ ap (λ x. Some x) same) (is_folder_kind new.kind) refl
  where
    at : (one : List ℕ × List ℕ) → Contains done one → child_in folder one ≡ Some new → (is_kind : Bool) → is_folder_kind new.kind ≡ is_kind → ⊥
    at one there child false is_file =
        before_is_other one.0 file.0 (next.before one there) (path_of_file folder one new child is_file ∙ sym (path_of_file folder file new is is_file))
    at one there child true is_folder =
        ⊎_elim
        (λ last. both_ways _ (ap (λ b. b && is_last_name new.name entries) (sym is_folder) ∙ unnamed) (is_last_named entries new new.name last refl))
        (not_passed tree folder done file new next is is_folder)
        (given.latest one there new child is_folder)

given_none : (folder : List ℕ) (done : Tree) (file : List ℕ × List ℕ) (entries : List DirEntry) → AreGiven folder done entries → child_in folder file ≡ None → AreGiven folder (done ++ file ∷ []) entries
given_none folder done file entries given none = record {
  from = λ entry among. later folder done file entry (given.from entry among);
  all = λ other among entry child.
      ⊎_elim (λ before. given.all other before entry child)
      (λ same. absurd (gives_none entry (ap (child_in folder) same ∙ child)))
      (Contains-push_cases done file other among);
  once = given.once;
  latest = λ other among entry child is.
      ⊎_elim (λ before. still folder done file entries entry (given.latest other before entry child is))
      (λ same. absurd (gives_none entry (ap (child_in folder) same ∙ child)))
      (Contains-push_cases done file other among);
}
  where
    gives_none : (entry : DirEntry) → child_in folder file ≡ Some entry → ⊥
    gives_none entry child = (let absent : None ≡ Some entry = sym none ∙ child in cc)

given_known : (folder : List ℕ) (done : Tree) (file : List ℕ × List ℕ) (entries : List DirEntry) (new : DirEntry) → AreGiven folder done entries → child_in folder file ≡ Some new → IsLast entries new → AreGiven folder (done ++ file ∷ []) entries
given_known folder done file entries new given is last = record {
  from = λ entry among. later folder done file entry (given.from entry among);
  all = λ other among entry child.
      ⊎_elim (λ before. given.all other before entry child)
      (λ same. subst (Contains entries) (same_Some new entry (sym is ∙ ap (child_in folder) same ∙ child)) (last_among entries new last))
      (Contains-push_cases done file other among);
  once = given.once;
  latest = λ other among entry child is_kind.
      ⊎_elim (λ before. still folder done file entries entry (given.latest other before entry child is_kind))
      (λ same. inl (subst (IsLast entries) (same_Some new entry (sym is ∙ ap (child_in folder) same ∙ child)) last))
      (Contains-push_cases done file other among);
}

given_new : (tree : Tree) (folder : List ℕ) (done : Tree) (file : List ℕ × List ℕ) (entries : List DirEntry) (new : DirEntry) → IsNext tree folder done file → AreGiven folder done entries → child_in folder file ≡ Some new → ((entry : DirEntry) → Contains entries entry → entry.name ≡ new.name → ⊥) → AreGiven folder (done ++ file ∷ []) (entries ++ new ∷ [])
given_new tree folder done file entries new next given is other_names = record {
  from = λ entry among.
      ⊎_elim (λ before. later folder done file entry (given.from entry before))
      (λ same.
      let given_here : IsGiven (done ++ file ∷ []) folder entry = record { file = file; among = Contains-push done file; child = is ∙ ap (λ x. Some x) same } in
      given_here)
      (Contains-push_cases entries new entry among);
  all = λ other among entry child.
      ⊎_elim (λ before. Contains-append_left entries (new ∷ []) entry (given.all other before entry child))
      (λ same. subst (Contains (entries ++ new ∷ [])) (same_Some new entry (sym is ∙ ap (child_in folder) same ∙ child)) (Contains-push entries new))
      (Contains-push_cases done file other among);
  once = all_pairs_push OtherName entries new given.once (λ k d inside. other_names (get_or entries k d) (Contains-get_or entries k d inside));
  latest = λ other among entry child is_kind.
      ⊎_elim (λ before. inr (passed other before entry child is_kind))
      (λ same. inl (subst (IsLast (entries ++ new ∷ [])) (same_Some new entry (sym is ∙ ap (child_in folder) same ∙ child)) (last_pushed entries new)))
      (Contains-push_cases done file other among);
}
  where
    passed : (other : List ℕ × List ℕ) → Contains done other → (entry : DirEntry) → child_in folder other ≡ Some entry → is_folder_kind entry.kind ≡ true → IsPassed folder (done ++ file ∷ []) entry
    passed other before entry child is_kind = record {
      file = file;
      among = Contains-push done file;
      past = next_is_past other.0 file.0 (front folder entry) (next.before other before) (begins_front folder other entry child is_kind);
      outside = false_from_ne_true _ (λ begins.
          other_names entry (given.all other before entry child) (ap (λ x. x.name) (same_Some entry new (sym (front_child folder other file entry child is_kind begins) ∙ is))));
    }

step_at : (tree : Tree) (folder : List ℕ) (done : Tree) (file : List ℕ × List ℕ) (entries : List DirEntry) (new : DirEntry) (known : Bool) → IsNext tree folder done file → AreGiven folder done entries → child_in folder file ≡ Some new → (is_folder_kind new.kind && is_last_name new.name entries) ≡ known → AreGiven folder (done ++ file ∷ []) (cond known entries (entries ++ new ∷ []))
step_at tree folder done file entries new true next given is known =
    given_known folder done file entries new given is (last_is_there tree folder done file entries new next given is (and_parts (is_folder_kind new.kind) (is_last_name new.name entries) known).1)
step_at tree folder done file entries new false next given is known =
    given_new tree folder done file entries new next given is (is_new tree folder done file entries new next given is known)

step : (tree : Tree) (folder : List ℕ) (done : Tree) (file : List ℕ × List ℕ) (entries : List DirEntry) (o : Option DirEntry) → IsNext tree folder done file → AreGiven folder done entries → child_in folder file ≡ o → AreGiven folder (done ++ file ∷ []) (with_entry entries o)
step tree folder done file entries None next given is = given_none folder done file entries given is
step tree folder done file entries (Some new) next given is =
    step_at tree folder done file entries new (is_folder_kind new.kind && is_last_name new.name entries) next given is refl

walk_gives : (tree : Tree) (folder : List ℕ) (done rest : Tree) (entries : List DirEntry) → IsTree tree → ((file : List ℕ × List ℕ) → Contains (done ++ rest) file → Contains tree file) → is_sorted order (done ++ rest) ≡ true → AreGiven folder done entries → AreGiven folder (done ++ rest) (walk folder entries rest)
walk_gives tree folder done [] entries is inside sorted given = subst (λ files. AreGiven folder files entries) (sym (append-nil done)) given
walk_gives tree folder done (file ∷ rest) entries is inside sorted given =
    let regroup : (done ++ file ∷ []) ++ rest ≡ done ++ file ∷ rest = append_assoc done (file ∷ []) rest in
    let next : IsNext tree folder done file = record {
      is_tree = is;
      done_among = λ other among. inside other (Contains-append_left done (file ∷ rest) other among);
      among = inside file (subst (λ files. Contains files file) regroup (Contains-append_left (done ++ file ∷ []) rest file (Contains-push done file)));
      before = λ earlier among. earlier_is_before done file rest earlier sorted among;
    } in
    subst (λ files. AreGiven folder files (walk folder (with_entry entries (child_in folder file)) rest)) regroup
    (walk_gives tree folder (done ++ file ∷ []) rest (with_entry entries (child_in folder file)) is
    (λ other among. inside other (subst (λ files. Contains files other) regroup among))
    (subst (λ files. is_sorted order files ≡ true) (sym regroup) sorted)
    (step tree folder done file entries (child_in folder file) next given refl))

nothing_given : (folder : List ℕ) → AreGiven folder [] []
nothing_given folder = record {
  from = λ entry among. absurd (omega (arith, among.1));
  all = λ file among entry child. absurd (omega (arith, among.1));
  once = λ i j d before inside. absurd (omega arith);
  latest = λ file among entry child is. absurd (omega (arith, among.1));
}

pub listing : (tree : Tree) (folder : List ℕ) → IsTree tree → AreEntries tree folder (walk folder [] (filter (has_prefix folder) tree))
listing tree folder is =
    let files = filter (has_prefix folder) tree in
    let entries = walk folder [] files in
    let given : AreGiven folder files entries =
    walk_gives tree folder [] files [] is (Contains-from_filter (has_prefix folder) tree) (is_sorted-filter (λ path. starts_with nat_eq path folder) tree is.sorted) (nothing_given folder) in
    record {
      each = All-weaker (Contains entries) (IsEntry tree folder)
          (λ entry among.
          let one = given.from entry among in
          child_is_entry tree folder one.file entry is (Contains-from_filter (has_prefix folder) tree one.file one.among) one.child)
          entries (All-contains_itself entries);
      all = λ entry is_entry.
          let one = entry_is_given tree folder entry is_entry in
          let child = child_parts folder one.file entry one.child in
          let begins : has_prefix folder one.file ≡ true = begins_within folder one.file.0 (starts_from one.file.0 (within folder) child.rest child.path) in
          given.all one.file (Contains-filter (has_prefix folder) tree one.file one.among begins) entry one.child;
      once = given.once;
    }
