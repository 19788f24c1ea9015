-- The folders above a folder, and the packages in them.
use Rattle.std.proofs.Common.{◌≡◌, ℕ, ◌-◌, ◌<◌, Bool, true, false, not, ◌||◌, cond, List, [], ◌∷◌, ◌++◌, Option, Some, None, Contains, map, append_assoc, arith, refl, sym, ap, ◌∙◌, zero, suc}
use Rattle.std.specs.List.{filter, find}
use Rattle.std.specs.Option.{is_some, option_or}
use Rattle.std.specs.Prelude.{IsTrue, ◌↔◌, codes}
use Rattle.std.specs.Str.{bytes_eq}
use Rattle.std.proofs.lemmas.Bool.{false≢true}
use Rattle.std.proofs.lemmas.List.Elements.{All-contains}
use Rattle.std.proofs.lemmas.Slice.Eq.{bytes_eq-Decides}
use Rattle.path_text.specs.Child.{child_of}
use Rattle.path_text.specs.Path.{IsFolderPath, parent_of}
use Rattle.tree_listing.specs.Listing.{IsListing, IsPlaced, Listed}
use Rattle.resolve_path.proofs.Trees.{same_bool}
use Rattle.resolve_path.specs.Packages.{folders_up, holds_packages, package_in}
use Rattle.resolve_path.specs.inner.Parts.{is_listed, package_among}

pub child_append : (folder name ending : List ℕ) → child_of folder name ++ ending ≡ child_of folder (name ++ ending)
child_append [] name ending = refl
child_append (byte ∷ bytes) name ending = append_assoc (byte ∷ bytes) (47 ∷ name) ending

listed_in : (folders : List (List ℕ)) (path : List ℕ) → Contains folders path → is_listed folders path ≡ true
listed_in [] path (place, inside, at) = absurd (omega (arith, inside))
listed_in (folder ∷ folders) path (zero, inside, at) =
    ap (λ b. b || is_listed folders path) ((bytes_eq-Decides folder path).1 at)
listed_in (folder ∷ folders) path (suc place, inside, at) = or_true (bytes_eq folder path) (listed_in folders path (place, omega (arith, inside), at))
  where
    or_true : (b : Bool) {c : Bool} → c ≡ true → (b || c) ≡ true
    or_true true e = refl
    or_true false e = e

in_listed : (folders : List (List ℕ)) (path : List ℕ) → is_listed folders path ≡ true → Contains folders path
in_listed [] path e = absurd (false≢true e)
in_listed (folder ∷ folders) path e = from (bytes_eq folder path) refl (in_listed folders path) e
  where
    from : (b : Bool) → bytes_eq folder path ≡ b → (is_listed folders path ≡ true → Contains folders path) → (b || is_listed folders path) ≡ true → Contains (folder ∷ folders) path
    from true is later e = (0, omega arith, (bytes_eq-Decides folder path).0 is)
    from false is later e = let own = later e in (suc own.0, omega (arith, own.1), own.2)

-- a test of the folders is whether the path is among them
pub listed_is : (folders : List (List ℕ)) (path : List ℕ) (test : Bool) → (IsTrue test ↔ Contains folders path) → test ≡ is_listed folders path
listed_is folders path test tells =
    same_bool test (is_listed folders path) (λ e. listed_in folders path (tells.0 e)) (λ e. tells.1 (in_listed folders path e))

-- one folder, and then the others
module _ (listed : List (List ℕ)) (name : List ℕ) where
  abbrev among : Bool → List ℕ → List (List ℕ) → Option (List ℕ)
  among b folder rest = find (is_listed listed) (map (package_in name) (cond (not b) (folder ∷ filter (λ one. not (holds_packages one)) rest) (filter (λ one. not (holds_packages one)) rest)))

  step : (b : Bool) (folder : List ℕ) (rest : List (List ℕ)) → among b folder rest ≡ option_or (among b folder []) (package_among listed name rest)
  step true folder rest = refl
  step false folder rest = found (is_listed listed (package_in name folder))
    where
      found : (own : Bool) → cond own (Some (package_in name folder)) (package_among listed name rest) ≡ option_or (cond own (Some (package_in name folder)) None) (package_among listed name rest)
      found true = refl
      found false = refl

  pub among_step : (folder : List ℕ) (rest : List (List ℕ)) → package_among listed name (folder ∷ rest) ≡ option_or (package_among listed name (folder ∷ [])) (package_among listed name rest)
  among_step folder rest = step (holds_packages folder) folder rest

  pub among_one : (folder path : List ℕ) → holds_packages folder ≡ false → path ≡ child_of folder (codes "node_modules/") ++ name
      → cond (is_listed listed path) (Some path) None ≡ package_among listed name (folder ∷ [])
  among_one folder path none at =
      ap (λ one. cond (is_listed listed one) (Some one) None) (at ∙ child_append folder (codes "node_modules/") name)
      ∙ ap (λ b. among b folder []) (sym none)

  pub among_up : (count : ℕ) (folder : List ℕ) → 0 < count → package_among listed name (folders_up count folder) ≡ option_or (package_among listed name (folder ∷ [])) (package_among listed name (folders_up (count - 1) (parent_of folder)))
  among_up zero folder some = absurd (omega (arith, some))
  among_up (suc count) folder some =
      let e : suc count - 1 ≡ count = omega arith in
      rw e (among_step folder (folders_up count (parent_of folder)))

-- what isn't found in the first folder is found in the others
pub not_here : (found here later all : Option (List ℕ)) → is_some found ≡ false → found ≡ here → all ≡ option_or here later → later ≡ all
not_here None here later all none is e = sym (e ∙ ap (λ one. option_or one later) (sym is))
not_here (Some path) here later all none is e = absurd (false≢true (sym none))

pub is_here : (found here later all : Option (List ℕ)) → is_some found ≡ true → found ≡ here → all ≡ option_or here later → found ≡ all
is_here None here later all some is e = absurd (false≢true some)
is_here (Some path) here later all some is e = sym (e ∙ ap (λ one. option_or one later) (sym is))

-- each folder of a listing has a path to join from
pub folder_path : (listing : Listed) (path : List ℕ) → IsListing listing → Contains listing.folders path → IsFolderPath path
folder_path listing path is there =
    (All-contains (λ folder. IsFolderPath folder × IsPlaced listing.folders folder) listing.folders path is.each_folder there).0
