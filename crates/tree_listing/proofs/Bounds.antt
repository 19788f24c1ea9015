-- A refused entry shows that a limit is exceeded, and a whole walk that none is.
use Rattle.std.proofs.Common.{◌≡◌, ◌≢◌, ℕ, zero, suc, ◌+◌, ◌<◌, ◌≤◌, List, [], ◌∷◌, ◌++◌, map, length, get_or, ◌⊎◌, ⊎_elim, refl, sym, ap, ◌∙◌, subst, inl, inr, arith, length-append}
use Rattle.std.proofs.lemmas.List.{append_assoc, get_or-map, get_or_append_left, get_or_default, length-map}
use Rattle.std.proofs.lemmas.List.Elements.{All-contains, All-map, Contains-append_right}
use Rattle.std.proofs.lemmas.Map.Made.{IsDistinct-from_AllPairs, is_member-Decides, length-le_from_is_member}
use Rattle.std.proofs.lemmas.Slice.Eq.{bytes_eq-Decides}
use Rattle.std.specs.Cmp.Lexicographic.{nat_list_eq_equiv}
use Rattle.std.specs.List.{All, AllPairs, Any, Contains}
use Rattle.fault_place.specs.declared.limit.Limit.{Limit}
use Rattle.fault_place.specs.declared.limit.Limit.TheVariants.{Files, PathBytes, Modules, TextBytes, Items, Blocks, Groups, Chunks, OutputBytes}
use Rattle.fault_place.specs.Limit.{number_of}
use Rattle.path_text.specs.Child.{child_of}
use Rattle.outside.specs.Reads.{IsEntry, AreEntries}
use Rattle.outside.specs.Tree.{Tree, IsTree}
use Rattle.outside.specs.declared.entry.DirEntry.{DirEntry}
use Rattle.tree_listing.specs.Limits.{IsEntryPath, Exceeds}
use Rattle.tree_listing.specs.inner.Kept.{root, entry_in, kept_in, AreFound, Refuses}
use Rattle.tree_listing.specs.inner.Walk.{IsBelow, IsWalk}
use Rattle.tree_listing.specs.declared.kept.Kept.{Kept}
use Rattle.tree_listing.proofs.Among.{pairs-front}
use Rattle.tree_listing.proofs.Paths.{child-is_entry}
use Rattle.tree_listing.proofs.Steps.{AreKept, are_kept, kept_in-entries}
use Rattle.tree_listing.proofs.Trees.{entry-full, kind-entry}

-- ---- a refused entry

All-front : {X : Type 0} (P : X → Type 0) (xs ys : List X) → All P (xs ++ ys) → All P xs
All-front P xs ys all k d short = subst P (get_or_append_left xs ys d k short) (all k d (omega (arith, length-append xs ys)))

pairs-map : {X Y : Type 0} (R : Y → Y → Type 0) (f : X → Y) (e : X) (xs : List X) → AllPairs (λ one other. R (f one) (f other)) xs → AllPairs R (map f xs)
pairs-map R f e xs all i j d before within =
    let short : j < length xs = omega (arith, length-map xs f) in
    let low : i < length xs = omega arith in
    rw (get_or-map f xs i e d low, get_or-map f xs j e d short) (all i j e before short)

-- kept entries but the root are entries of the tree
entry_paths : (tree : Tree) (rest : List Kept) → AreKept tree (root ∷ rest) → All (IsEntryPath tree) (map (λ (x : Kept). x.path) rest)
entry_paths tree rest kept =
    All-map (IsEntryPath tree) (λ (x : Kept). x.path) rest
    (λ k d short. kind-entry tree (get_or rest k d).path (get_or rest k d).kind (λ e. kept.once 0 (suc k) d (omega arith) (omega arith) (sym e)) (kept.there (suc k) d (omega arith)))

unlike_paths : (tree : Tree) (rest : List Kept) → AreKept tree (root ∷ rest) → AllPairs (λ one other. one ≢ other) (map (λ (x : Kept). x.path) rest)
unlike_paths tree rest kept =
    pairs-map (λ one other. one ≢ other) (λ (x : Kept). x.path) root rest (λ i j d before short. kept.once (suc i) (suc j) d (omega arith) (omega arith))

pub too_many : (tree : Tree) (place : ℕ) (kept : List Kept) → IsWalk tree place kept → place < length kept → (entries : List DirEntry) → All (IsEntry tree (get_or kept place root).path) entries → AllPairs (λ one other. one.name ≢ other.name) entries → number_of Files + 1 < length kept + length entries → Exceeds tree Files
too_many tree place kept walk inside entries each once more =
    let folder = (get_or kept place root).path in
    let all = are_kept tree place kept walk inside entries each once in
    let rest = all.from_root.0 in
    let whole : AreKept tree (root ∷ rest) = subst (AreKept tree) all.from_root.1 all in (
      map (λ (x : Kept). x.path) rest,
      entry_paths tree rest whole,
      unlike_paths tree rest whole,
      omega (arith, ap length all.from_root.1, length-append kept (map (entry_in folder) entries), length-map entries (entry_in folder), length-map rest (λ (x : Kept). x.path)),
    )

pub refused : (tree : Tree) (place : ℕ) (kept : List Kept) → IsWalk tree place kept → place < length kept → (entries : List DirEntry) → AreEntries tree (get_or kept place root).path entries → (limit : Limit) → Refuses (get_or kept place root).path entries kept limit → Exceeds tree limit
refused tree place kept walk inside entries own Files refusal =
    let folder = (get_or kept place root).path in
    let split : entries ≡ (refusal.done ++ refusal.entry ∷ []) ++ refusal.rest = refusal.split ∙ sym (append_assoc refusal.done (refusal.entry ∷ []) refusal.rest) in
    let each = All-front (IsEntry tree folder) (refusal.done ++ refusal.entry ∷ []) refusal.rest (subst (All (IsEntry tree folder)) split own.each) in
    let once = pairs-front (λ (one other : DirEntry). one.name ≢ other.name) (refusal.done ++ refusal.entry ∷ []) refusal.rest (subst (AllPairs (λ (one other : DirEntry). one.name ≢ other.name)) split own.once) in
    let before = All-front (IsEntry tree folder) refusal.done (refusal.entry ∷ []) each in
    let done = kept_in-entries tree folder refusal.done before in
    too_many tree place kept walk inside (refusal.done ++ refusal.entry ∷ []) each once
    (omega (arith, refusal.over, length-append kept (kept_in folder refusal.done), ap length done, length-map refusal.done (entry_in folder), length-append refusal.done (refusal.entry ∷ [])))
refused tree place kept walk inside entries own PathBytes refusal =
    let folder = (get_or kept place root).path in
    let here = All-contains (IsEntry tree folder) entries refusal.entry own.each (subst (λ xs. Contains xs refusal.entry) (sym refusal.split) (Contains-append_right refusal.done (refusal.entry ∷ refusal.rest) refusal.entry (0, omega arith, refl))) in
    (child_of folder refusal.entry.name, kind-entry tree (child_of folder refusal.entry.name) refusal.entry.kind (child-is_entry folder refusal.entry.name refusal.segment) here.there, refusal.over)
refused tree place kept walk inside entries own Modules refusal = absurd refusal.over
refused tree place kept walk inside entries own TextBytes refusal = absurd refusal.over
refused tree place kept walk inside entries own Items refusal = absurd refusal.over
refused tree place kept walk inside entries own Blocks refusal = absurd refusal.over
refused tree place kept walk inside entries own Groups refusal = absurd refusal.over
refused tree place kept walk inside entries own Chunks refusal = absurd refusal.over
refused tree place kept walk inside entries own OutputBytes refusal = absurd refusal.over

-- ---- a whole walk

-- each entry of the tree was kept
pub record IsKept (kept : List Kept) (path : List ℕ) : Type 0 where
  pub place : ℕ
  pub inside : place < length kept
  pub is : (get_or kept place root).path ≡ path

pub all_kept : (tree : Tree) (kept : List Kept) → IsWalk tree (length kept) kept → (path : List ℕ) → IsEntryPath tree path → IsKept kept path
all_kept tree kept walk path entry = from (walk.all path entry)
  where
    from : Any (λ (x : Kept). x.path ≡ path) kept ⊎ ((k : ℕ) × (length kept ≤ k) × (k < length kept) × IsBelow path (get_or kept k root).path) → IsKept kept path
    from (inl any) = record { place = any.0; inside = any.2; is = ap (λ (x : Kept). x.path) (get_or_default kept any.0 root any.1 any.2 ∙ any.3) ∙ any.4 }
    from (inr below) = absurd (omega (arith, below.1, below.2))

-- each stands behind the root
behind_root : (tree : Tree) → IsTree tree → (rest : List Kept) (path : List ℕ) → IsEntryPath tree path → (place : ℕ) → place < length (root ∷ rest) → (get_or (root ∷ rest) place root).path ≡ path → Contains (map (λ (x : Kept). x.path) rest) path
behind_root tree is rest path entry zero inside at = absurd (entry-full tree is path entry (sym at))
behind_root tree is rest path entry (suc place) inside at =
    let short : place < length rest = omega arith in
    (place, omega (arith, length-map rest (λ (x : Kept). x.path)), get_or-map (λ (x : Kept). x.path) rest place root path short ∙ at)

few_files : (tree : Tree) → IsTree tree → (rest : List Kept) → IsWalk tree (length (root ∷ rest)) (root ∷ rest) → (paths : List (List ℕ)) → All (IsEntryPath tree) paths → AllPairs (λ one other. one ≢ other) paths → length paths ≤ length rest
few_files tree is rest walk paths entries unlike =
    let names = map (λ (x : Kept). x.path) rest in
    let fewer = length-le_from_is_member nat_list_eq_equiv paths names (IsDistinct-from_AllPairs bytes_eq-Decides paths unlike)
    (λ path h.
    let entry = All-contains (IsEntryPath tree) paths path entries ((is_member-Decides bytes_eq-Decides paths path).0 h) in
    let at = all_kept tree (root ∷ rest) walk path entry in
    (is_member-Decides bytes_eq-Decides names path).1 (behind_root tree is rest path entry at.place at.inside at.is)) in
    omega (arith, length-map rest (λ (x : Kept). x.path))

-- no path that was found is too long
found_short : (kept : List Kept) → AreFound kept → (place : ℕ) → place < length kept → length (get_or kept place root).path ≤ number_of PathBytes
found_short kept found place inside =
    ⊎_elim
    (λ is. omega (arith, ap (λ (x : Kept). length x.path) is))
    (λ own. own.1)
    (found.each place root inside)

pub no_limit : (tree : Tree) → IsTree tree → (kept : List Kept) → IsWalk tree (length kept) kept → AreFound kept → (limit : Limit) → ¬ Exceeds tree limit
no_limit tree is kept walk found Files over =
    let rest = walk.from_root.0 in
    let whole : IsWalk tree (length (root ∷ rest)) (root ∷ rest) = subst (λ xs. IsWalk tree (length xs) xs) walk.from_root.1 walk in
    omega (arith, found.few, over.3, ap length walk.from_root.1, few_files tree is rest whole over.0 over.1 over.2)
no_limit tree is kept walk found PathBytes over =
    let at = all_kept tree kept walk over.0 over.1 in
    omega (arith, over.2, found_short kept found at.place at.inside, ap length at.is)
no_limit tree is kept walk found Modules over = over
no_limit tree is kept walk found TextBytes over = over
no_limit tree is kept walk found Items over = over
no_limit tree is kept walk found Blocks over = over
no_limit tree is kept walk found Groups over = over
no_limit tree is kept walk found Chunks over = over
no_limit tree is kept walk found OutputBytes over = over
