-- Where a normal path is cut at a slash, both parts are normal; and what stands first below a folder.
use Rattle.std.proofs.Common.{◌≡◌, ℕ, true, false, cond, not, List, [], ◌∷◌, ◌++◌, ◌⊎◌, refl, sym, ap, ◌∙◌, subst, inl, inr}
use Rattle.std.proofs.lemmas.Bool.{and_parts, and_from, or_parts, or_from, not-true, not_from_false, eqb-true, cases_Bool}
use Rattle.std.proofs.lemmas.List.{append_assoc, append_cancel_left}
use Rattle.std.proofs.lemmas.List.Folds.{list_all-append, list_any-append}
use Rattle.std.specs.List.{list_all, list_any, onto_first}
use Rattle.path_text.specs.Child.{IsSegment, child_of}
use Rattle.path_text.specs.Path.{segments, is_name, is_slash, is_forbidden, IsNormal}
use Rattle.outside.specs.Tree.{within}

-- ---- a path cut at a slash

full : (text : List ℕ) → (first : List ℕ) × (rest : List (List ℕ)) × (segments text ≡ first ∷ rest)
full [] = ([], [], refl)
full (byte ∷ bytes) = elim (is_slash byte) as (λ slash. (first : List ℕ) × (rest : List (List ℕ)) × (cond slash ([] ∷ segments bytes) (onto_first byte (segments bytes)) ≡ first ∷ rest)) [
  | true ↦ ([], segments bytes, refl)
  | false ↦ (let more = full bytes in (byte ∷ more.0, more.1, ap (onto_first byte) more.2))
]

onto : (byte : ℕ) (parts others : List (List ℕ)) (first : List ℕ) (rest : List (List ℕ)) → parts ≡ first ∷ rest → onto_first byte (parts ++ others) ≡ onto_first byte parts ++ others
onto byte [] others first rest e = cc
onto byte (part ∷ parts) others first rest e = refl

segments-append : (front back : List ℕ) → segments (front ++ 47 ∷ back) ≡ segments front ++ segments back
segments-append [] back = refl
segments-append (byte ∷ bytes) back = elim (is_slash byte) as (λ slash. cond slash ([] ∷ segments (bytes ++ 47 ∷ back)) (onto_first byte (segments (bytes ++ 47 ∷ back))) ≡ cond slash ([] ∷ segments bytes) (onto_first byte (segments bytes)) ++ segments back) [
  | true ↦ ap (λ parts. [] ∷ parts) (segments-append bytes back)
  | false ↦ (let more = full bytes in ap (onto_first byte) (segments-append bytes back) ∙ onto byte (segments bytes) (segments back) more.0 more.1 more.2)
]

normal_from : (path : List ℕ) → list_all is_name (segments path) ≡ true → list_any is_forbidden path ≡ false → IsNormal path
normal_from path names clean = and_from (list_all is_name (segments path)) (not (list_any is_forbidden path)) names (not_from_false _ clean)

pub normal-parts : (front back : List ℕ) → IsNormal (front ++ 47 ∷ back) → IsNormal front × IsNormal back
normal-parts front back normal =
    let both = and_parts (list_all is_name (segments (front ++ 47 ∷ back))) (not (list_any is_forbidden (front ++ 47 ∷ back))) normal in
    let names = and_parts (list_all is_name (segments front)) (list_all is_name (segments back)) (sym (list_all-append is_name (segments front) (segments back)) ∙ sym (ap (list_all is_name) (segments-append front back)) ∙ both.0) in
    let clean = or_parts (list_any is_forbidden front) (list_any is_forbidden (47 ∷ back)) (sym (list_any-append is_forbidden front (47 ∷ back)) ∙ not-true _ both.1) in
    (normal_from front names.0 clean.0, normal_from back names.1 clean.1)

-- ---- the first segment of what stands below a folder

-- a text up to its first slash, if it has one
pub record Cut (text : List ℕ) : Type 0 where
  pub name : List ℕ
  pub whole : list_any is_slash name ≡ false
  pub is : (text ≡ name) ⊎ ((rest : List ℕ) × (text ≡ name ++ 47 ∷ rest))

longer : (byte : ℕ) (bytes name : List ℕ) → (bytes ≡ name) ⊎ ((rest : List ℕ) × (bytes ≡ name ++ 47 ∷ rest)) → (byte ∷ bytes ≡ byte ∷ name) ⊎ ((rest : List ℕ) × (byte ∷ bytes ≡ (byte ∷ name) ++ 47 ∷ rest))
longer byte bytes name (inl e) = inl (ap (λ xs. byte ∷ xs) e)
longer byte bytes name (inr more) = inr (more.0, ap (λ xs. byte ∷ xs) more.1)

pub cut : (text : List ℕ) → Cut text
cut [] = record { name = []; whole = refl; is = inl refl }
cut (byte ∷ bytes) = elim (cases_Bool (is_slash byte)) [
  | inl slash ↦ record { name = []; whole = refl; is = inr (bytes, ap (λ x. x ∷ bytes) (eqb-true byte 47 slash)) }
  | inr other ↦ (let more = cut bytes in record { name = byte ∷ more.name; whole = or_from (is_slash byte) (list_any is_slash more.name) other more.whole; is = longer byte bytes more.name more.is })
]

pub within-child : (folder name : List ℕ) → within folder ++ name ≡ child_of folder name
within-child [] name = refl
within-child (byte ∷ bytes) name = append_assoc (byte ∷ bytes) (47 ∷ []) name

pub segment-from : (name : List ℕ) → IsNormal name → list_any is_slash name ≡ false → IsSegment name
segment-from name normal whole = and_from _ (not (list_any is_slash name)) normal (not_from_false _ whole)

-- below a folder, the rest of a normal path is normal
pub normal-below : (folder rest : List ℕ) → IsNormal (within folder ++ rest) → IsNormal rest
normal-below [] rest normal = normal
normal-below (byte ∷ bytes) rest normal = (normal-parts (byte ∷ bytes) rest (subst IsNormal (append_assoc (byte ∷ bytes) (47 ∷ []) rest) normal)).1

pub not_normal : IsNormal [] → ⊥
not_normal normal = cc

child-full : (folder name : List ℕ) → IsSegment name → child_of folder name ≡ [] → ⊥
child-full [] [] own e = cc
child-full [] (byte ∷ bytes) own e = cc
child-full (byte ∷ bytes) name own e = cc

pub child-is_entry : (folder name : List ℕ) → IsSegment name → child_of folder name ≡ [] → ⊥
child-is_entry = child-full

-- what stands below a path that isn't the root begins with the path and a slash
pub within-full : (path : List ℕ) → (path ≡ [] → ⊥) → within path ≡ path ++ 47 ∷ []
within-full [] full_ = absurd (full_ refl)
within-full (byte ∷ bytes) full_ = refl

pub child-cancel : (folder one other : List ℕ) → child_of folder one ≡ child_of folder other → one ≡ other
child-cancel folder one other e = append_cancel_left (within folder) one other (within-child folder one ∙ e ∙ sym (within-child folder other))
