-- Names seen one after another, and the set of them.
use Rattle.std.proofs.Common.{◌≡◌, ◌+◌, ℕ, Bool, true, false, not, cond, List, [], ◌∷◌, ◌++◌, take, refl, sym, ap, ◌∙◌, append_assoc, append-nil, subst, Result, Ok, Err}
use Rattle.std.specs.Prelude.{◌||◌, OnOk}
use Rattle.std.specs.BTreeSet.{BTreeSet, contains}
use Rattle.std.specs.Cmp.Lexicographic.{slice_cmp, nat_list_eq_equiv}
use Rattle.std.specs.List.{list_any}
use Rattle.std.specs.Ordering.{nat_cmp, is_eq}
use Rattle.std.specs.Str.{bytes_eq}
use Rattle.std.proofs.lemmas.List.Folds.{list_any-append}
use Rattle.std.proofs.lemmas.Map.Text.{is_eq-slice_cmp}
use Rattle.es_scan.specs.Flaws.{repeat_of, repeats}
use Rattle.fault_place.specs.declared.fault.FaultKind.TheVariants.{RepeatedName}
use Rattle.es_scan.specs.declared.flaws.Flaw.{Flaw}
use Rattle.es_scan.specs.inner.Seen.{HasNames}

or_false : (a b : Bool) → (a || (b || false)) ≡ cond b true a
or_false true true = refl
or_false true false = refl
or_false false true = refl
or_false false false = refl

-- one more name
push_any : (name key : List ℕ) (earlier : List (List ℕ))
    → list_any (bytes_eq name) (earlier ++ key ∷ []) ≡ cond (bytes_eq key name) true (list_any (bytes_eq name) earlier)
push_any name key earlier =
    list_any-append (bytes_eq name) earlier (key ∷ [])
    ∙ or_false (list_any (bytes_eq name) earlier) (bytes_eq name key)
    ∙ ap (λ b. cond b true (list_any (bytes_eq name) earlier)) (nat_list_eq_equiv.symm name key)

-- the set with one more name
pub more_names : (old new : BTreeSet (List ℕ)) (key : List ℕ) (earlier : List (List ℕ))
    → ((name : List ℕ) → contains (slice_cmp nat_cmp) new name ≡ cond (is_eq (slice_cmp nat_cmp key name)) true (contains (slice_cmp nat_cmp) old name))
    → HasNames old earlier → HasNames new (earlier ++ key ∷ [])
more_names old new key earlier changed held = record {
  has = λ name.
      changed name
      ∙ ap (λ b. cond b true (contains (slice_cmp nat_cmp) old name)) (is_eq-slice_cmp key name)
      ∙ ap (λ b. cond (bytes_eq key name) true b) (held.has name)
      ∙ sym (push_any name key earlier);
}

-- a name that the set has isn't new
pub is_repeat : (old : BTreeSet (List ℕ)) (key : List ℕ) (earlier : List (List ℕ)) (added : Bool)
    → added ≡ not (contains (slice_cmp nat_cmp) old key) → HasNames old earlier → list_any (bytes_eq key) earlier ≡ not added
is_repeat old key earlier added told held = sym (held.has key) ∙ twice (contains (slice_cmp nat_cmp) old key) ∙ ap not (sym told)
  where
    twice : (b : Bool) → b ≡ not (not b)
    twice true = refl
    twice false = refl

pub repeated : (offset : ℕ) (earlier : List (List ℕ)) (name : List ℕ) → list_any (bytes_eq name) earlier ≡ true
    → repeat_of offset earlier name ≡ record { offset = offset; kind = RepeatedName; detail = name } ∷ []
repeated offset earlier name e = rw e refl

pub unrepeated : (offset : ℕ) (earlier : List (List ℕ)) (name : List ℕ) → list_any (bytes_eq name) earlier ≡ false
    → repeat_of offset earlier name ≡ []
unrepeated offset earlier name e = rw e refl

-- names before a name, and then it
pub repeats-push : (offset : ℕ) (earlier names : List (List ℕ)) (name : List ℕ)
    → repeats offset earlier (names ++ name ∷ []) ≡ repeats offset earlier names ++ repeat_of offset (earlier ++ names) name
repeats-push offset earlier [] name = rw (append-nil, append-nil) refl
repeats-push offset earlier (first ∷ names) name =
    ap (λ more. repeat_of offset earlier first ++ more) (repeats-push offset (earlier ++ first ∷ []) names name)
    ∙ rw (append_assoc, append_assoc) refl

-- whatever the call answers
pub on_any : {A E : Type 0} (result : Result A E) (P : Type 0) → P → OnOk result P
on_any (Ok x) P p = p
on_any (Err e) P p = tt

-- one turn of the loop over names
pub flaws_more : (offset : ℕ) (earlier names : List (List ℕ)) (i : ℕ) (name : List ℕ) (first now next : List Flaw)
    → take (i + 1) names ≡ take i names ++ name ∷ []
    → now ≡ first ++ repeats offset earlier (take i names)
    → next ≡ now ++ repeat_of offset (earlier ++ take i names) name
    → next ≡ first ++ repeats offset earlier (take (i + 1) names)
flaws_more offset earlier names i name first now next taken before after =
    after ∙ ap (λ flaws. flaws ++ repeat_of offset (earlier ++ take i names) name) before
    ∙ append_assoc first (repeats offset earlier (take i names)) (repeat_of offset (earlier ++ take i names) name)
    ∙ ap (λ more. first ++ more) (sym (repeats-push offset earlier (take i names) name))
    ∙ ap (λ some. first ++ repeats offset earlier some) (sym taken)

pub seen_more : (set : BTreeSet (List ℕ)) (earlier names : List (List ℕ)) (i : ℕ) (name : List ℕ)
    → take (i + 1) names ≡ take i names ++ name ∷ []
    → HasNames set ((earlier ++ take i names) ++ name ∷ []) → HasNames set (earlier ++ take (i + 1) names)
seen_more set earlier names i name taken held =
    subst (HasNames set) (append_assoc earlier (take i names) (name ∷ []) ∙ ap (λ more. earlier ++ more) (sym taken)) held

pub on_ok_by : {A E : Type 0} (result : Result A E) (P Q : Type 0) → (P → Q) → OnOk result P → OnOk result Q
on_ok_by (Ok x) P Q f p = f p
on_ok_by (Err e) P Q f p = tt
