-- The listing that is made of what a walk has found.
use Rattle.std.proofs.Common.{◌≡◌, ℕ, ◌+◌, ◌≤◌, List, [], length, get_or, ⊎_elim, Contains, refl, sym, ap, ◌∙◌, subst, inl, inr, arith}
use Rattle.std.proofs.lemmas.List.Elements.{All-contains_itself, All-weaker}
use Rattle.fault_place.specs.declared.limit.Limit.TheVariants.{PathBytes}
use Rattle.fault_place.specs.Limit.{number_of}
use Rattle.path_text.specs.Path.{IsFolderPath, IsNormal, parent_of}
use Rattle.outside.specs.declared.entry.EntryKind.TheVariants.{File, Folder}
use Rattle.tree_listing.specs.Listing.{IsPlaced}
use Rattle.tree_listing.specs.inner.Kept.{root, as_folder, AreFound}
use Rattle.tree_listing.specs.inner.Split.{file_where, folder_where, files_among, folders_among, Holds}
use Rattle.tree_listing.specs.declared.kept.Kept.{Kept}
use Rattle.tree_listing.proofs.Among.{flat_from, from_file, from_folder, folder_listed}
use Rattle.tree_listing.proofs.Sorting.{IsSortedOut, AreSortedOut}

module _ (kept : List Kept) (files : List (List ℕ × ℕ)) (folders : List (List ℕ)) (found : AreFound kept) (sorted_files : IsSortedOut (files_among kept) files) (sorted_folders : AreSortedOut (folders_among kept) folders) where
  there : (path : List ℕ) → Contains kept (as_folder path) → Contains folders path
  there path h = (sorted_folders.same path).1 (folder_listed kept path h)

  -- where an entry with a path but the root stands
  placed : (entry : Kept) (path : List ℕ) → entry.path ≡ path → IsNormal entry.path × (length entry.path ≤ number_of PathBytes) × Contains kept (as_folder (parent_of entry.path)) → IsNormal path × IsPlaced folders path
  placed entry path at own =
      subst (λ x. IsNormal x × IsPlaced folders x) at (own.0, record { short = own.1; parent = there (parent_of entry.path) own.2 })

  file_placed : (file : List ℕ × ℕ) → Contains files file → IsNormal file.0 × IsPlaced folders file.0
  file_placed file h =
      let at = flat_from (λ (x : Kept). file_where x.path x.kind) root kept file (sorted_files.each file h) in
      let entry = get_or kept at.0 root in
      let parts = from_file entry.path entry.kind file at.2 in
      ⊎_elim
      (λ is. absurd (let kind : File file.1 ≡ Folder = sym parts.1 ∙ ap (λ (x : Kept). x.kind) is in cc))
      (placed entry file.0 parts.0)
      (found.each at.0 root at.1)

  root_there : Contains folders []
  root_there = there [] found.from_root

  folder_placed : (path : List ℕ) → Contains folders path → IsFolderPath path × IsPlaced folders path
  folder_placed path h =
      let at = flat_from (λ (x : Kept). folder_where x.path x.kind) root kept path ((sorted_folders.same path).0 h) in
      let entry = get_or kept at.0 root in
      let same = (from_folder entry.path entry.kind path at.2).0 in
      ⊎_elim
      (λ is.
      let alone : [] ≡ path = sym (ap (λ (x : Kept). x.path) is) ∙ same in
      subst (λ x. IsFolderPath x × IsPlaced folders x) alone (inl refl, record { short = omega arith; parent = root_there }))
      (λ own. let more = placed entry path same own in (inr more.0, more.1))
      (found.each at.0 root at.1)

  pub holds : length files + length folders ≤ length kept → Holds kept (record { files = files; folders = folders })
  holds few = record {
    is = record {
      files_ascend = sorted_files.ascending;
      folders_ascend = sorted_folders.ascending;
      root = root_there;
      each_file = All-weaker (Contains files) (λ file. IsNormal file.0 × IsPlaced folders file.0) file_placed files (All-contains_itself files);
      each_folder = All-weaker (Contains folders) (λ path. IsFolderPath path × IsPlaced folders path) folder_placed folders (All-contains_itself folders);
      few = omega (arith, few, found.few);
    };
    each_file = sorted_files.each;
    all_files = sorted_files.all;
    folders = sorted_folders.same;
    once = sorted_folders.once;
  }
