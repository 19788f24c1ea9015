-- What a listing holds stands in its folders by names of one segment, and each folder counts.
use Rattle.std.proofs.Common.{◌≡◌, ◌≢◌, ℕ, ◌+◌, ◌≤◌, false, List, [], ◌∷◌, ◌++◌, length, ◌⊎◌, ⊎_elim, Contains, refl, sym, ap, ◌∙◌, subst, inl, inr, arith}
use Rattle.std.proofs.lemmas.Bool.{cases_Bool, eqb-true, or_from}
use Rattle.std.proofs.lemmas.List.Elements.{All-cons, All-contains, All-weaker}
use Rattle.std.proofs.lemmas.List.Kept.{AllPairs-cons}
use Rattle.std.proofs.lemmas.Map.Made.{IsDistinct-from_AllPairs, is_member-Decides, length-le_from_is_member}
use Rattle.std.proofs.lemmas.Slice.Eq.{bytes_eq-Decides}
use Rattle.std.specs.Cmp.Lexicographic.{nat_list_eq_equiv}
use Rattle.std.specs.List.{All, AllPairs, list_any}
use Rattle.fault_place.specs.declared.limit.Limit.TheVariants.{Files}
use Rattle.fault_place.specs.Limit.{number_of}
use Rattle.path_text.specs.Child.{IsSegment, child_of}
use Rattle.path_text.specs.Path.{IsNormal, is_slash, parent_of}
use Rattle.path_text.proofs.Children.{parent_of-child}
use Rattle.tree_listing.specs.Listing.{Listed, IsListing, IsNamedIn, IsPlaced}
use Rattle.tree_listing.proofs.Paths.{normal-parts, not_normal, segment-from}

-- ---- a path is cut at its last slash

record LastCut (path : List ℕ) : Type 0 where
  name : List ℕ
  whole : list_any is_slash name ≡ false
  is : (path ≡ name) ⊎ ((front : List ℕ) × (path ≡ front ++ 47 ∷ name))

last_cut : (path : List ℕ) → LastCut path
last_cut [] = record { name = []; whole = refl; is = inl refl }
last_cut (byte ∷ bytes) = (let rest = last_cut bytes in from rest.name rest.whole rest.is)
  where
    from : (name : List ℕ) → list_any is_slash name ≡ false → (bytes ≡ name) ⊎ ((front : List ℕ) × (bytes ≡ front ++ 47 ∷ name)) → LastCut (byte ∷ bytes)
    from name whole (inl e) = ⊎_elim
        (λ slash. record { name = name; whole = whole; is = inr ([], ap (λ xs. byte ∷ xs) e ∙ ap (λ x. x ∷ name) (eqb-true byte 47 slash)) })
        (λ other. record { name = byte ∷ name; whole = or_from (is_slash byte) (list_any is_slash name) other whole; is = inl (ap (λ xs. byte ∷ xs) e) })
        (cases_Bool (is_slash byte))
    from name whole (inr more) = record { name = name; whole = whole; is = inr (byte ∷ more.0, ap (λ xs. byte ∷ xs) more.1) }

child_below : (folder name : List ℕ) → IsNormal folder → child_of folder name ≡ folder ++ 47 ∷ name
child_below [] name normal = absurd (not_normal normal)
child_below (byte ∷ bytes) name normal = refl

-- a normal path is that of an entry of its folder
entry_of_folder : (path : List ℕ) → IsNormal path → (name : List ℕ) × IsSegment name × (path ≡ child_of (parent_of path) name)
entry_of_folder path normal = (let cut = last_cut path in from cut.name cut.whole cut.is)
  where
    under : (folder name : List ℕ) → IsSegment name → path ≡ child_of folder name → path ≡ child_of (parent_of path) name
    under folder name own is = is ∙ ap (λ x. child_of x name) (sym (ap parent_of is ∙ parent_of-child folder name own))

    from : (name : List ℕ) → list_any is_slash name ≡ false → (path ≡ name) ⊎ ((front : List ℕ) × (path ≡ front ++ 47 ∷ name)) → (name : List ℕ) × IsSegment name × (path ≡ child_of (parent_of path) name)
    from name whole (inl e) =
        let own = segment-from name (subst IsNormal e normal) whole in
        (name, own, under [] name own e)
    from name whole (inr more) =
        let parts = normal-parts more.0 name (subst IsNormal more.1 normal) in
        let own = segment-from name parts.1 whole in
        (name, own, under more.0 name own (more.1 ∙ sym (child_below more.0 name parts.0)))

named : (folders : List (List ℕ)) (path : List ℕ) → IsNormal path → IsPlaced folders path → IsNamedIn folders path
named folders path normal placed =
    let entry = entry_of_folder path normal in
    record { folder = parent_of path; there = placed.parent; name = entry.0; segment = entry.1; is = entry.2 }

pub file_named : (listing : Listed) (file : List ℕ × ℕ) → IsListing listing → Contains listing.files file → IsNamedIn listing.folders file.0
file_named listing file is h =
    let own = All-contains (λ (x : List ℕ × ℕ). IsNormal x.0 × IsPlaced listing.folders x.0) listing.files file is.each_file h in
    named listing.folders file.0 own.0 own.1

pub folder_named : (listing : Listed) (path : List ℕ) → IsListing listing → Contains listing.folders path → (path ≡ []) ⊎ IsNamedIn listing.folders path
folder_named listing path is h =
    let own = All-contains (λ x. ((x ≡ []) ⊎ IsNormal x) × IsPlaced listing.folders x) listing.folders path is.each_folder h in
    ⊎_elim (λ root. inl root) (λ normal. inr (named listing.folders path normal own.1)) own.0

pub each_counts : (listing : Listed) (paths : List (List ℕ)) → IsListing listing → All (Contains listing.folders) paths → AllPairs (λ one other. one ≢ other) paths → All (λ path. path ≢ []) paths → length listing.files + length paths ≤ number_of Files
each_counts listing paths is there unlike full =
    let whole = [] ∷ paths in
    let all : All (Contains listing.folders) whole = All-cons (Contains listing.folders) [] paths is.root there in
    let apart : AllPairs (λ one other. one ≢ other) whole =
    AllPairs-cons (λ one other. one ≢ other) [] paths (All-weaker (λ path. path ≢ []) (λ path. [] ≢ path) (λ path other e. other (sym e)) paths full) unlike in
    let fewer = length-le_from_is_member nat_list_eq_equiv whole listing.folders (IsDistinct-from_AllPairs bytes_eq-Decides whole apart)
    (λ path h. (is_member-Decides bytes_eq-Decides listing.folders path).1 (All-contains (Contains listing.folders) whole path all ((is_member-Decides bytes_eq-Decides whole path).0 h))) in
    omega (arith, is.few, fewer)
