-- What a walk answers: over a folder's entries, and as a whole.
use Rattle.std.proofs.Common.{◌≡◌, ℕ, ◌+◌, ◌<◌, true, List, [], ◌∷◌, ◌++◌, length, get_or, take, Some, Result, Ok, Err, MatchResult, sym, ap, ◌∙◌, arith, append_assoc, append-nil}
use Rattle.std.proofs.lemmas.List.{take-append-le, take_all}
use Rattle.std.specs.Prelude.{IfErr, IfOk}
use Rattle.std.specs.List.Sorted.{IsPermutation}
use Rattle.outside.specs.Reads.{AreEntries}
use Rattle.outside.specs.Tree.{Tree, IsTree, bytes_at, is_folder}
use Rattle.outside.specs.declared.entry.DirEntry.{DirEntry}
use Rattle.outside.specs.Views.{ReaderView}
use Rattle.outside.specs.declared.entry.EntryKind.{EntryKind}
use Rattle.outside.specs.declared.entry.EntryKind.TheVariants.{File, Folder}
use Rattle.outside.specs.declared.outside_end.OutsideEnd.{OutsideEnd}
use Rattle.outside.specs.declared.outside_end.OutsideEnd.TheVariants.{Failed as ReaderFailed, NoMemory as ReaderNoMemory}
use Rattle.tree_listing.specs.Ends.{end_of}
use Rattle.tree_listing.specs.Listing.{Listed}
use Rattle.tree_listing.specs.Lists.{IsAnswer, ListsEachOnce, ListsTree}
use Rattle.tree_listing.specs.inner.Kept.{root, AreFound, KeepsEntries}
use Rattle.tree_listing.specs.inner.Split.{folder_where, folders_among, Holds}
use Rattle.tree_listing.specs.inner.Walk.{HasEnded, HasWalkedTo, IsEnd, IsWalk}
use Rattle.tree_listing.specs.declared.kept.Kept.{Kept}
use Rattle.tree_listing.specs.declared.list_end.ListEnd.{ListEnd}
use Rattle.tree_listing.specs.declared.list_end.ListEnd.TheVariants.{Failed, Limit as Over, NoMemory}
use Rattle.tree_listing.proofs.Bounds.{no_limit, refused}
use Rattle.tree_listing.proofs.Among.{first_unlike, folders_next, folders_unlike}
use Rattle.tree_listing.proofs.Steps.{start, step_file, step_folder}
use Rattle.tree_listing.proofs.Trees.{folder_given}
use Rattle.tree_listing.proofs.Whole.{whole}

-- a kept folder is one of the tree
pub folder_at : (tree : Tree) (place : ℕ) (kept : List Kept) → IsWalk tree place kept → place < length kept → (get_or kept place root).kind ≡ Folder → is_folder tree (get_or kept place root).path ≡ true
folder_at tree place kept walk inside kind =
    (folder_given (bytes_at tree (get_or kept place root).path) (is_folder tree (get_or kept place root).path) (walk.there place root inside ∙ ap (λ x. Some x) kind)).1

-- ---- what has been listed

pub started : (tree : Tree) → IsTree tree → (now : ReaderView) → HasWalkedTo tree now.listed 0 (root ∷ []) now
started tree is now = record { walk = start tree is; folders = sym (append-nil now.listed) }

listed_more : (kept : List Kept) (place : ℕ) → place < length kept → (kind : EntryKind) → (get_or kept place root).kind ≡ kind → (first : List (List ℕ)) → (first ++ folders_among (take place kept)) ++ folder_where (get_or kept place root).path kind ≡ first ++ folders_among (take (place + 1) kept)
listed_more kept place inside kind is first =
    append_assoc first (folders_among (take place kept)) (folder_where (get_or kept place root).path kind)
    ∙ ap (λ xs. first ++ xs) (ap (λ k. folders_among (take place kept) ++ folder_where (get_or kept place root).path k) (sym is) ∙ sym (folders_next kept place inside))

-- a file is passed
pub passed_file : (tree : Tree) → IsTree tree → (first : List (List ℕ)) (place : ℕ) (kept : List Kept) (size : ℕ) (now : ReaderView) → HasWalkedTo tree first place kept now → place < length kept → (get_or kept place root).kind ≡ File size → HasWalkedTo tree first (place + 1) kept now
passed_file tree is first place kept size now to inside kind = record {
  walk = step_file tree is place kept size to.walk inside kind;
  folders = to.folders ∙ sym (append-nil (first ++ folders_among (take place kept))) ∙ listed_more kept place inside (File size) kind first;
}

-- an end while so many are listed
ended : (tree : Tree) (first : List (List ℕ)) (count listed : ℕ) (kept : List Kept) (now : ReaderView) (end : ListEnd) → IsWalk tree listed kept → IsEnd tree end → now.listed ≡ first ++ folders_among (take count kept) → HasEnded tree first now end
ended tree first count listed kept now end walk reason joined = record {
  reason = reason;
  more = folders_among (take count kept);
  joined = joined;
  once = first_unlike kept count walk.once;
}

pub ended_before : (tree : Tree) (first : List (List ℕ)) (place : ℕ) (kept : List Kept) (before now : ReaderView) (end : ListEnd) → HasWalkedTo tree first place kept before → IsEnd tree end → now.listed ≡ before.listed → HasEnded tree first now end
ended_before tree first place kept before now end to reason same = ended tree first place place kept now end to.walk reason (same ∙ to.folders)

pub reader_end : (tree : Tree) (end : OutsideEnd) → IsEnd tree (end_of end)
reader_end tree ReaderFailed = tt
reader_end tree ReaderNoMemory = tt

walked : (tree : Tree) → IsTree tree → (place : ℕ) (kept new : List Kept) → IsWalk tree place kept → place < length kept → (entries : List DirEntry) → AreEntries tree (get_or kept place root).path entries → (result : Result Unit ListEnd) → KeepsEntries (get_or kept place root).path entries kept new result → MatchResult result (λ _. IsWalk tree (place + 1) new) (λ end. IsEnd tree end)
walked tree is place kept new walk inside entries own (Ok done) keeps = step_folder tree is place kept new walk inside entries own keeps
walked tree is place kept new walk inside entries own (Err (Over limit)) keeps = refused tree place kept walk inside entries own limit keeps
walked tree is place kept new walk inside entries own (Err Failed) keeps = tt
walked tree is place kept new walk inside entries own (Err NoMemory) keeps = tt

-- a folder was listed, and its entries were kept or one of them was refused
pub walked_on : (tree : Tree) → IsTree tree → (first : List (List ℕ)) (place : ℕ) (kept new : List Kept) (before now : ReaderView) → HasWalkedTo tree first place kept before → place < length kept → (get_or kept place root).kind ≡ Folder → (entries : List DirEntry) → AreEntries tree (get_or kept place root).path entries → now.listed ≡ before.listed ++ (get_or kept place root).path ∷ [] → (result : Result Unit ListEnd) → KeepsEntries (get_or kept place root).path entries kept new result → MatchResult result (λ _. HasWalkedTo tree first (place + 1) new now) (λ end. HasEnded tree first now end)
walked_on tree is first place kept new before now to inside kind entries own joined result keeps =
    from result keeps (walked tree is place kept new to.walk inside entries own result keeps)
  where
    here : now.listed ≡ first ++ folders_among (take (place + 1) kept)
    here = joined ∙ ap (λ xs. xs ++ (get_or kept place root).path ∷ []) to.folders ∙ listed_more kept place inside Folder kind first

    from : (result : Result Unit ListEnd) → KeepsEntries (get_or kept place root).path entries kept new result → MatchResult result (λ _. IsWalk tree (place + 1) new) (λ end. IsEnd tree end) → MatchResult result (λ _. HasWalkedTo tree first (place + 1) new now) (λ end. HasEnded tree first now end)
    from (Ok done) has walk =
        let same : take (place + 1) new ≡ take (place + 1) kept = ap (take (place + 1)) has.kept ∙ take-append-le (place + 1) kept _ (omega arith) in
        record { walk = walk; folders = here ∙ ap (λ xs. first ++ folders_among xs) (sym same) }
    from (Err end) refusal reason = ended tree first (place + 1) place kept now end to.walk reason here

-- ---- the answer

answered : (tree : Tree) → IsTree tree → (kept : List Kept) → IsWalk tree (length kept) kept → AreFound kept → (result : Result Listed ListEnd) → IfOk result (λ listing. Holds kept listing) → IfErr result (λ end. end ≡ NoMemory) → IsAnswer tree result
answered tree is kept walk found (Ok listing) held none = (whole tree is kept walk listing held, no_limit tree is kept walk found)
answered tree is kept walk found (Err (Over limit)) held none = cc
answered tree is kept walk found (Err Failed) held none = tt
answered tree is kept walk found (Err NoMemory) held none = tt

each_once : (tree : Tree) (before now : ReaderView) (kept : List Kept) → HasWalkedTo tree before.listed (length kept) kept now → (result : Result Listed ListEnd) → IfOk result (λ listing. Holds kept listing) → ListsEachOnce before now result
each_once tree before now kept to result held = record {
  more = folders_among kept;
  joined = to.folders ∙ ap (λ xs. before.listed ++ folders_among xs) (take_all (length kept) kept (omega arith));
  once = folders_unlike kept to.walk.once;
  all = from result held;
}
  where
    from : (result : Result Listed ListEnd) → IfOk result (λ listing. Holds kept listing) → IfOk result (λ listing. IsPermutation (folders_among kept) listing.folders)
    from (Ok listing) held = held.once (folders_unlike kept to.walk.once)
    from (Err end) held = tt

pub listed : (tree : Tree) → IsTree tree → (before now : ReaderView) (kept : List Kept) → now.strays ≡ before.strays → HasWalkedTo tree before.listed (length kept) kept now → AreFound kept → (result : Result Listed ListEnd) → IfOk result (λ listing. Holds kept listing) → IfErr result (λ end. end ≡ NoMemory) → ListsTree tree before now result
listed tree is before now kept no_stray to found result held none = record {
  no_stray = no_stray;
  answer = answered tree is kept to.walk found result held none;
  folders = each_once tree before now kept to result held;
}

end_answer : (tree : Tree) (end : ListEnd) → IsEnd tree end → IsAnswer tree (Err end)
end_answer tree (Over limit) reason = reason
end_answer tree Failed reason = tt
end_answer tree NoMemory reason = tt

pub not_listed : (tree : Tree) (before now : ReaderView) (end : ListEnd) → now.strays ≡ before.strays → HasEnded tree before.listed now end → ListsTree tree before now (Err end)
not_listed tree before now end no_stray ended = record {
  no_stray = no_stray;
  answer = end_answer tree end ended.reason;
  folders = record { more = ended.more; joined = ended.joined; once = ended.once; all = tt };
}
