-- What a walk has found stands in folders that it has found.
use Rattle.std.proofs.Common.{◌≡◌, ℕ, ◌+◌, ◌<◌, ◌≤◌, Bool, true, false, List, [], ◌∷◌, ◌++◌, length, get_or, Result, Ok, Err, ⊎_elim, Contains, refl, sym, ap, ◌∙◌, subst, inl, inr, arith}
use Rattle.std.proofs.lemmas.List.Elements.{All-append, All-cons, All-contains, All-head, All-nil, All-tail, All-weaker, Contains-append_left}
use Rattle.std.proofs.lemmas.List.{get_or_default}
use Rattle.std.specs.List.{All}
use Rattle.std.specs.Prelude.{OnOk}
use Rattle.fault_place.specs.declared.limit.Limit.TheVariants.{Files, PathBytes}
use Rattle.fault_place.specs.Limit.{number_of}
use Rattle.path_text.specs.Child.{IsSegment, child_of, is_segment}
use Rattle.path_text.specs.Path.{IsFolderPath, parent_of}
use Rattle.path_text.proofs.Children.{child_of-normal, parent_of-child}
use Rattle.outside.specs.declared.entry.DirEntry.{DirEntry}
use Rattle.outside.specs.declared.entry.EntryKind.TheVariants.{Folder}
use Rattle.tree_listing.specs.inner.Kept.{root, as_folder, entry_in, kept_where, kept_in, AreFound, AreShort, HasKept, IsFoundIn, KeepsEntries}
use Rattle.tree_listing.specs.declared.kept.Kept.{Kept}
use Rattle.tree_listing.specs.declared.list_end.ListEnd.{ListEnd}

pub found_root : AreFound (root ∷ [])
found_root = record {
  few = omega arith;
  from_root = (0, omega arith, refl);
  each = All-cons (IsFoundIn (root ∷ [])) root [] (inl refl) (All-nil (IsFoundIn (root ∷ [])));
}

-- the path of a kept folder
folder_path : (kept : List Kept) (folder : List ℕ) → IsFoundIn kept (as_folder folder) → IsFolderPath folder
folder_path kept folder = ⊎_elim (λ is. inl (ap (λ (x : Kept). x.path) is)) (λ own. inr own.0)

found_entry : (kept : List Kept) (folder : List ℕ) (entry : DirEntry) → IsFolderPath folder → Contains kept (as_folder folder) → IsSegment entry.name → length (child_of folder entry.name) ≤ number_of PathBytes → IsFoundIn kept (entry_in folder entry)
found_entry kept folder entry path there own short =
    inr (child_of-normal folder entry.name path own, short, subst (λ parent. Contains kept (as_folder parent)) (sym (parent_of-child folder entry.name own)) there)

found_entries : (kept : List Kept) (folder : List ℕ) → IsFolderPath folder → Contains kept (as_folder folder) → (entries : List DirEntry) → AreShort (kept_in folder entries) → All (IsFoundIn kept) (kept_in folder entries)
found_entries kept folder path there [] short = All-nil (IsFoundIn kept)
found_entries kept folder path there (entry ∷ entries) short = from (is_segment entry.name) refl (found_entries kept folder path there entries) short
  where
    from : (own : Bool) → is_segment entry.name ≡ own → (AreShort (kept_in folder entries) → All (IsFoundIn kept) (kept_in folder entries)) → AreShort (kept_where own (entry_in folder entry) ++ kept_in folder entries) → All (IsFoundIn kept) (kept_where own (entry_in folder entry) ++ kept_in folder entries)
    from true own later short =
        let Short = λ (x : Kept). length x.path ≤ number_of PathBytes in
        All-cons (IsFoundIn kept) (entry_in folder entry) (kept_in folder entries)
        (found_entry kept folder entry path there own (All-head Short (entry_in folder entry) (kept_in folder entries) short))
        (later (All-tail Short (entry_in folder entry) (kept_in folder entries) short))
    from false own later short = later short

still_found : (kept more : List Kept) (entry : Kept) → IsFoundIn kept entry → IsFoundIn (kept ++ more) entry
still_found kept more entry =
    ⊎_elim (λ is. inl is) (λ own. inr (own.0, own.1, Contains-append_left kept more (as_folder (parent_of entry.path)) own.2))

found_more : (folder : List ℕ) (entries : List DirEntry) (old new : List Kept) → AreFound old → Contains old (as_folder folder) → HasKept folder entries old new → AreFound new
found_more folder entries old new found there has =
    let more = kept_in folder entries in
    let path = folder_path old folder (All-contains (IsFoundIn old) old (as_folder folder) found.each there) in
    let whole : AreFound (old ++ more) = record {
      few = subst (λ xs. length xs ≤ number_of Files + 1) has.kept has.few;
      from_root = Contains-append_left old more root found.from_root;
      each = All-append (IsFoundIn (old ++ more)) old more
          (All-weaker (IsFoundIn old) (IsFoundIn (old ++ more)) (still_found old more) old found.each)
          (found_entries (old ++ more) folder path (Contains-append_left old more (as_folder folder) there) entries has.short);
    } in
    subst AreFound (sym has.kept) whole

-- the entries of a kept folder are kept
pub found_kept : (folder : List ℕ) (entries : List DirEntry) (old new : List Kept) (result : Result Unit ListEnd) → AreFound old → Contains old (as_folder folder) → KeepsEntries folder entries old new result → OnOk result (AreFound new)
found_kept folder entries old new (Ok done) found there has = found_more folder entries old new found there has
found_kept folder entries old new (Err end) found there refusal = tt

pub folder_kept_at : (kept : List Kept) (place : ℕ) (folder : List ℕ) → place < length kept → (get_or kept place root).path ≡ folder → (get_or kept place root).kind ≡ Folder → Contains kept (as_folder folder)
folder_kept_at kept place folder inside path kind =
    (place, inside, get_or_default kept place (as_folder folder) root inside ∙ (λ i. record { path = path i; kind = kind i }))
