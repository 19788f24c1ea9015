-- Manifests that are kept.
use Rattle.std.proofs.Common.{◌≡◌, ℕ, ◌<◌, Bool, true, false, ◌||◌, cond, leb, List, [], ◌∷◌, ◌++◌, length, get_or, map, Option, Some, None, refl, sym, ap, ◌∙◌, subst, arith, suc, zero}
use Rattle.std.specs.Cmp.Lexicographic.{pointwise, nat_list_eq_equiv}
use Rattle.std.specs.List.{AllByRecursion, IsDistinct, list_any, position}
use Rattle.std.specs.Prelude.{nat_eq}
use Rattle.std.proofs.lemmas.List.{length-append, map-append}
use Rattle.std.proofs.lemmas.Map.Keys.{IsDistinct-push}
use Rattle.std.specs.Option.{option_map}
use Rattle.std.specs.Str.{bytes_eq}
use Rattle.std.proofs.Math.Seq.{get_or-append_seam}
use Rattle.std.proofs.lemmas.List.Quantifiers.{position-Some}
use Rattle.std.proofs.lemmas.Slice.Eq.{bytes_eq-Decides}
use Rattle.json_order.proofs.OneAnswer.{one_answer_from}
use Rattle.outside.specs.Reads.{read_of}
use Rattle.outside.specs.Tree.{Tree, bytes_at}
use Rattle.outside.specs.declared.entry.ReadGot.TheVariants.{Whole, TooLong}
use Rattle.pkg_manifest.proofs.ManifestLaws.{one_manifest_of}
use Rattle.pkg_manifest.specs.Manifest.{IsManifestOf, size_limit}
use Rattle.pkg_manifest.specs.declared.fields.Manifest.{Manifest}
use Rattle.resolve_path.specs.Caches.{AreTrue, IsCache, IsManifestAt}
use Rattle.resolve_path.proofs.Trees.{flip, is_some_place}
use Rattle.resolve_path.specs.Manifests.{IsReading, ManifestReading}
use Rattle.resolve_path.specs.inner.Fetches.{is_at, nothing}
use Rattle.resolve_path.specs.declared.kept.KeptManifest.{KeptManifest}

pub one_manifest : (text : List ℕ) (one other : Option Manifest) → IsManifestOf text one → IsManifestOf text other → one ≡ other
one_manifest text = one_manifest_of text (λ one other. one_answer_from _ _ one other)

-- what a file is by a reading
pub as_read : (tree : Tree) (path : List ℕ) (answer : Option Manifest) (reading : ManifestReading) → IsReading reading → IsManifestAt tree path answer → Some answer ≡ option_map reading (bytes_at tree path)
as_read tree path answer reading is (bytes, at, own) =
    ap Some (one_manifest bytes answer (reading bytes) own (is bytes)) ∙ sym (ap (option_map reading) at)

at_place : {X : Type 0} (P : X → Type 0) (xs : List X) (place : ℕ) (d : X) → AllByRecursion P xs → place < length xs → P (get_or xs place d)
at_place P [] place d all l = absurd (omega (arith, l))
at_place P (x ∷ xs) zero d all l = all.0
at_place P (x ∷ xs) (suc place) d all l = at_place P xs place d all.1 (omega (arith, l))

-- what is kept of a path is what the tree has there
pub kept_at : (tree : Tree) (kept : List KeptManifest) (path : List ℕ) (place : ℕ) → AreTrue tree kept → position (is_at path) kept ≡ Some place → IsManifestAt tree path (get_or kept place nothing).answer
kept_at tree kept path place true_ is =
    let at = position-Some (is_at path) kept place nothing is in
    subst (λ one. IsManifestAt tree one (get_or kept place nothing).answer) ((bytes_eq-Decides (get_or kept place nothing).path path).0 at.1)
    (at_place (λ one. IsManifestAt tree one.path one.answer) kept place nothing true_ at.0)

pub true_more : (tree : Tree) (kept : List KeptManifest) (path : List ℕ) (answer : Option Manifest) → AreTrue tree kept → IsManifestAt tree path answer → AreTrue tree (kept ++ record { path = path; answer = answer } ∷ [])
true_more tree [] path answer all own = (own, tt)
true_more tree (one ∷ kept) path answer all own = (all.0, true_more tree kept path answer all.1 own)

pub last_kept : (kept : List KeptManifest) (one : KeptManifest) → get_or (kept ++ one ∷ []) (length kept) nothing ≡ one
last_kept kept one = get_or-append_seam kept one [] nothing

-- a path of which nothing is kept is none of those kept
none_of : (path : List ℕ) (kept : List KeptManifest) → list_any (is_at path) kept ≡ false → list_any (pointwise nat_eq path) (map (λ one. one.path) kept) ≡ false
none_of path kept none = same path kept ∙ none
  where
    same : (path : List ℕ) (kept : List KeptManifest) → list_any (pointwise nat_eq path) (map (λ one. one.path) kept) ≡ list_any (is_at path) kept
    same path [] = refl
    same path (one ∷ kept) = ap (λ b. b || list_any (pointwise nat_eq path) (map (λ other. other.path) kept)) (flip path one.path) ∙ ap (λ b. bytes_eq one.path path || b) (same path kept)

pub cache_none : IsCache []
unfolding IsDistinct
cache_none = record { few = omega arith; once = tt }

pub cache_more : (kept : List KeptManifest) (path : List ℕ) (answer : Option Manifest) → IsCache kept → length kept < 32 → position (is_at path) kept ≡ None → IsCache (kept ++ record { path = path; answer = answer } ∷ [])
cache_more kept path answer is room new =
    let more = kept ++ record { path = path; answer = answer } ∷ [] in
    record {
      few = omega (arith, length-append kept (record { path = path; answer = answer } ∷ []), room);
      once = subst (IsDistinct (pointwise nat_eq)) (sym (map-append (λ (one : KeptManifest). one.path) kept (record { path = path; answer = answer } ∷ [])))
          (IsDistinct-push nat_list_eq_equiv (map (λ one. one.path) kept) path is.once (none_of path kept (is_some_place (is_at path) kept new)));
    }

-- what a read gave whole is all of the file
pub whole_is : (given bytes : List ℕ) → Whole given ≡ read_of size_limit bytes → given ≡ bytes
whole_is given bytes e = from (leb (length bytes) size_limit) e
  where
    from : (b : Bool) → Whole given ≡ cond b (Whole bytes) TooLong → given ≡ bytes
    from true e = cc
    from false e = cc
