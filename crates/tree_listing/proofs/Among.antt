-- The files and the folders among kept entries.
use Rattle.std.proofs.Common.{◌≡◌, ◌≢◌, ℕ, zero, suc, ◌+◌, ◌<◌, List, [], ◌∷◌, ◌++◌, length, get_or, take, drop, ◌⊎◌, Contains, refl, sym, ap, ◌∙◌, subst, inl, inr, arith, append-nil, length-append}
use Rattle.std.proofs.Math.Seq.{take-suc}
use Rattle.std.proofs.lemmas.Grind.{flat_map-append}
use Rattle.std.proofs.lemmas.List.{get_or_append_left, get_or_default, take-append-drop}
use Rattle.std.proofs.lemmas.List.Elements.{All-contains_itself, All-weaker, Contains-append_cases, Contains-append_left, Contains-append_right}
use Rattle.std.proofs.lemmas.List.Kept.{AllPairs-cons}
use Rattle.std.specs.List.{AllPairs, flat_map}
use Rattle.outside.specs.declared.entry.EntryKind.{EntryKind}
use Rattle.outside.specs.declared.entry.EntryKind.TheVariants.{File, Folder}
use Rattle.tree_listing.specs.inner.Kept.{root, as_folder}
use Rattle.tree_listing.specs.inner.Split.{file_where, folder_where, files_among, folders_among}
use Rattle.tree_listing.specs.declared.kept.Kept.{Kept}

pub flat_from : {X Y : Type 0} (f : X → List Y) (d : X) (xs : List X) (y : Y) → Contains (flat_map f xs) y → (k : ℕ) × (k < length xs) × Contains (f (get_or xs k d)) y
flat_from f d [] y h = absurd (omega (arith, h.1))
flat_from f d (x ∷ xs) y h = from (flat_from f d xs y) (Contains-append_cases (f x) (flat_map f xs) y h)
  where
    from : (Contains (flat_map f xs) y → (k : ℕ) × (k < length xs) × Contains (f (get_or xs k d)) y) → Contains (f x) y ⊎ Contains (flat_map f xs) y → (k : ℕ) × (k < length (x ∷ xs)) × Contains (f (get_or (x ∷ xs) k d)) y
    from rest (inl here) = (0, omega arith, here)
    from rest (inr later) = (let more = rest later in (suc more.0, omega (arith, more.1), more.2))

pub flat_to : {X Y : Type 0} (f : X → List Y) (d : X) (xs : List X) (y : Y) (k : ℕ) → k < length xs → Contains (f (get_or xs k d)) y → Contains (flat_map f xs) y
flat_to f d [] y k inside h = absurd (omega arith)
flat_to f d (x ∷ xs) y zero inside h = Contains-append_left (f x) (flat_map f xs) y h
flat_to f d (x ∷ xs) y (suc k) inside h = Contains-append_right (f x) (flat_map f xs) y (flat_to f d xs y k (omega arith) h)

only : {X : Type 0} (x y : X) (k : ℕ) → k < 1 → get_or (x ∷ []) k y ≡ y → x ≡ y
only x y zero inside is = is
only x y (suc k) inside is = absurd (omega arith)

pub from_file : (path : List ℕ) (kind : EntryKind) (file : List ℕ × ℕ) → Contains (file_where path kind) file → (path ≡ file.0) × (kind ≡ File file.1)
from_file path (File size) file h = (let same = only (path, size) file h.0 h.1 h.2 in (ap (λ (x : List ℕ × ℕ). x.0) same, ap (λ (x : List ℕ × ℕ). File x.1) same))
from_file path Folder file h = absurd (omega (arith, h.1))

pub to_file : (path : List ℕ) (kind : EntryKind) (size : ℕ) → kind ≡ File size → Contains (file_where path kind) (path, size)
to_file path (File own) size e = (let same : own ≡ size = cc in (0, omega arith, ap (λ x. (path, x)) same))
to_file path Folder size e = cc

pub from_folder : (path : List ℕ) (kind : EntryKind) (folder : List ℕ) → Contains (folder_where path kind) folder → (path ≡ folder) × (kind ≡ Folder)
from_folder path (File size) folder h = absurd (omega (arith, h.1))
from_folder path Folder folder h = (only path folder h.0 h.1 h.2, refl)

pub to_folder : (path : List ℕ) (kind : EntryKind) → kind ≡ Folder → Contains (folder_where path kind) path
to_folder path (File size) e = cc
to_folder path Folder e = (0, omega arith, refl)

pub file_among : (kept : List Kept) (path : List ℕ) (size place : ℕ) → place < length kept → (get_or kept place root).path ≡ path → (get_or kept place root).kind ≡ File size → Contains (files_among kept) (path, size)
file_among kept path size place inside at kind =
    subst (λ x. Contains (files_among kept) (x, size)) at (flat_to (λ (entry : Kept). file_where entry.path entry.kind) root kept ((get_or kept place root).path, size) place inside (to_file (get_or kept place root).path (get_or kept place root).kind size kind))

pub folder_among : (kept : List Kept) (path : List ℕ) (place : ℕ) → place < length kept → (get_or kept place root).path ≡ path → (get_or kept place root).kind ≡ Folder → Contains (folders_among kept) path
folder_among kept path place inside at kind =
    subst (Contains (folders_among kept)) at (flat_to (λ (entry : Kept). folder_where entry.path entry.kind) root kept (get_or kept place root).path place inside (to_folder (get_or kept place root).path (get_or kept place root).kind kind))

pub folder_listed : (kept : List Kept) (path : List ℕ) → Contains kept (as_folder path) → Contains (folders_among kept) path
folder_listed kept path there =
    let at : get_or kept there.0 root ≡ as_folder path = get_or_default kept there.0 root (as_folder path) there.1 ∙ there.2 in
    folder_among kept path there.0 there.1 (ap (λ (x : Kept). x.path) at) (ap (λ (x : Kept). x.kind) at)

-- ---- the folders among the first entries

pub folders_next : (kept : List Kept) (count : ℕ) → count < length kept → folders_among (take (count + 1) kept) ≡ folders_among (take count kept) ++ folder_where (get_or kept count root).path (get_or kept count root).kind
folders_next kept count inside =
    let at = get_or kept count root in
    let one : suc count ≡ count + 1 = omega arith in
    subst (λ n. folders_among (take n kept) ≡ folders_among (take count kept) ++ folder_where at.path at.kind) one
    (ap folders_among (take-suc kept count root inside) ∙ flat_map-append (λ (entry : Kept). folder_where entry.path entry.kind) (take count kept) (at ∷ [])
    ∙ ap (λ xs. folders_among (take count kept) ++ xs) (append-nil (folder_where at.path at.kind)))

-- ---- kept once, folders differ

abbrev Differ : Kept → Kept → Type 0
Differ one other = one.path ≢ other.path

abbrev pub AreUnlike : List (List ℕ) → Type 0
AreUnlike paths = AllPairs (λ one other. one ≢ other) paths

pub pairs-front : {X : Type 0} (R : X → X → Type 0) (xs ys : List X) → AllPairs R (xs ++ ys) → AllPairs R xs
pairs-front R xs ys all i j d before short =
    let low : i < length xs = omega arith in
    let both : R (get_or (xs ++ ys) i d) (get_or (xs ++ ys) j d) = all i j d before (omega (arith, length-append xs ys)) in
    rw (get_or_append_left xs ys d i low, get_or_append_left xs ys d j short) at both

unlike-cons : (entry : Kept) (kept : List Kept) (kind : EntryKind) → AllPairs Differ (entry ∷ kept) → AreUnlike (folders_among kept) → AreUnlike (folder_where entry.path kind ++ folders_among kept)
unlike-cons entry kept (File size) once later = later
unlike-cons entry kept Folder once later =
    AllPairs-cons (λ one other. one ≢ other) entry.path (folders_among kept)
    (All-weaker (Contains (folders_among kept)) (λ path. entry.path ≢ path)
    (λ path h same.
    let at = flat_from (λ (x : Kept). folder_where x.path x.kind) root kept path h in
    once 0 (suc at.0) root (omega arith) (omega (arith, at.1)) (same ∙ sym (from_folder (get_or kept at.0 root).path (get_or kept at.0 root).kind path at.2).0))
    (folders_among kept) (All-contains_itself (folders_among kept)))
    later

pairs-tail : (entry : Kept) (kept : List Kept) → AllPairs Differ (entry ∷ kept) → AllPairs Differ kept
pairs-tail entry kept once i j d before within = once (suc i) (suc j) d (omega arith) (omega arith)

pub folders_unlike : (kept : List Kept) → AllPairs (λ one other. one.path ≢ other.path) kept → AreUnlike (folders_among kept)
folders_unlike [] once = λ i j d before within. absurd (omega arith)
folders_unlike (entry ∷ kept) once = unlike-cons entry kept entry.kind once (folders_unlike kept (pairs-tail entry kept once))

pub first_unlike : (kept : List Kept) (count : ℕ) → AllPairs (λ one other. one.path ≢ other.path) kept → AreUnlike (folders_among (take count kept))
first_unlike kept count once =
    folders_unlike (take count kept) (pairs-front Differ (take count kept) (drop count kept) (subst (AllPairs Differ) (sym (take-append-drop count kept)) once))
