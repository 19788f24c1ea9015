-- Where no names clash.
use Rattle.std.proofs.Common.{◌≡◌, ◌≢◌, ℕ, zero, suc, ◌+◌, ◌<◌, ◌≤◌, Bool, true, false, cond, bytes_eq, codes, List, [], ◌∷◌, ◌++◌, length, get_or, take, find, Option, Some, None, option_map, refl, sym, ap, ◌∙◌, subst, ⊎_elim, ◌↔◌, arith}
use Rattle.std.proofs.lemmas.Bool.{cases_lt, false_from_ne_true}
use Rattle.std.proofs.lemmas.Grind.{common_steps}
use Rattle.std.proofs.lemmas.List.{get_or_default}
use Rattle.std.proofs.lemmas.Slice.Eq.{bytes_eq-Decides}
use Rattle.fault_place.specs.declared.fault.Fault.{Fault}
use Rattle.asset_names.specs.Clashes.{first_named, clash_fault, first_clash, stats_clash, clashes_at, clashes_of, HaveOwnNames}
use Rattle.asset_names.proofs.Firsts.{clashes_before, clashes_before-more, clashes_before-all}

nil_parts : (xs ys : List Fault) → xs ++ ys ≡ [] → (xs ≡ []) × (ys ≡ [])
nil_parts [] ys e = (refl, e)
nil_parts (x ∷ xs) ys e = cc

-- ---- no member before has the name

first_by : (member : ℕ × List ℕ) (members : List (ℕ × List ℕ)) (name : List ℕ) (same : Bool) → bytes_eq name member.1 ≡ same → option_map (λ (m : ℕ × List ℕ). m.0) (cond same (Some member) (find (λ m. bytes_eq name m.1) members)) ≡ None → (name ≢ member.1) × (first_named members name ≡ None)
first_by member members name true t e = cc
first_by member members name false t e =
    (λ is. let yes = (bytes_eq-Decides name member.1).1 is in cc, e)

first_none : (members : List (ℕ × List ℕ)) (name : List ℕ) → first_named members name ≡ None → (i : ℕ) (d : ℕ × List ℕ) → i < length members → name ≢ (get_or members i d).1
first_none [] name e i d within = absurd (omega arith)
first_none (member ∷ members) name e zero d within = (first_by member members name (bytes_eq name member.1) refl e).0
first_none (member ∷ members) name e (suc i) d within =
    first_none members name (first_by member members name (bytes_eq name member.1) refl e).1 i d (omega arith)

none_first : (members : List (ℕ × List ℕ)) (name : List ℕ) → ((i : ℕ) (d : ℕ × List ℕ) → i < length members → name ≢ (get_or members i d).1) → first_named members name ≡ None
none_first [] name none = refl
none_first (member ∷ members) name none =
    let other : bytes_eq name member.1 ≡ false = false_from_ne_true _ (λ e. none 0 member (omega arith) ((bytes_eq-Decides name member.1).0 e)) in
    ap (λ (b : Bool). option_map (λ (m : ℕ × List ℕ). m.0) (cond b (Some member) (find (λ m. bytes_eq name m.1) members))) other
    ∙ none_first members name (λ i d within. none (suc i) d (omega arith))

-- ---- no clash at one member

no_first : (path : List ℕ) (first : Option ℕ) (id : ℕ) (name : List ℕ) → first_clash path first id name ≡ [] → first ≡ None
no_first path None id name e = refl
no_first path (Some first) id name e = cc

stats_by : (fault : Fault) (same : Bool) → same ≡ true → (let found : List Fault = cond same (fault ∷ []) [] in found) ≡ [] → ⊥
stats_by fault true t e = cc
stats_by fault false t e = cc

at_none : (path : List ℕ) (earlier : List (ℕ × List ℕ)) (member : ℕ × List ℕ) → clashes_at path earlier member ≡ [] → (first_named earlier member.1 ≡ None) × (member.1 ≢ codes "stats.json")
at_none path earlier member e =
    let parts = nil_parts (first_clash path (first_named earlier member.1) member.0 member.1) (stats_clash path member.0 member.1) e in (
      no_first path (first_named earlier member.1) member.0 member.1 parts.0,
      λ is. stats_by (clash_fault path member.0 None member.1) (bytes_eq member.1 (codes "stats.json")) ((bytes_eq-Decides member.1 (codes "stats.json")).1 is) parts.1,
    )

none_at : (path : List ℕ) (earlier : List (ℕ × List ℕ)) (member : ℕ × List ℕ) → first_named earlier member.1 ≡ None → member.1 ≢ codes "stats.json" → clashes_at path earlier member ≡ []
none_at path earlier member none other =
    let differs : bytes_eq member.1 (codes "stats.json") ≡ false = false_from_ne_true _ (λ e. other ((bytes_eq-Decides member.1 (codes "stats.json")).0 e)) in
    ap (λ (o : Option ℕ). first_clash path o member.0 member.1 ++ stats_clash path member.0 member.1) none
    ∙ ap (λ (b : Bool). cond b (clash_fault path member.0 None member.1 ∷ []) []) differs

-- ---- no clash at any member

each_none : (path : List ℕ) (members : List (ℕ × List ℕ)) (n : ℕ) → n ≤ length members → clashes_before path members n ≡ [] → (i : ℕ) (d : ℕ × List ℕ) → i < n → clashes_at path (take i members) (get_or members i d) ≡ []
each_none path members zero within e i d below = absurd (omega arith)
each_none path members (suc n) within e i d below =
    let one : n + 1 ≡ suc n = omega arith in
    let parts = nil_parts (clashes_before path members n) (clashes_at path (take n members) (get_or members n d))
    (sym (clashes_before-more path members n d (omega arith)) ∙ ap (clashes_before path members) one ∙ e) in
    ⊎_elim
    (λ (before : i < n). each_none path members n (omega arith) parts.0 i d before)
    (λ (here : n ≤ i). let same : n ≡ i = omega arith in subst (λ (k : ℕ). clashes_at path (take k members) (get_or members k d) ≡ []) same parts.1)
    (cases_lt i n)

none_each : (path : List ℕ) (members : List (ℕ × List ℕ)) (n : ℕ) → n ≤ length members → ((i : ℕ) (d : ℕ × List ℕ) → i < n → clashes_at path (take i members) (get_or members i d) ≡ []) → clashes_before path members n ≡ []
none_each path members zero within each = refl
none_each path members (suc n) within each =
    let one : suc n ≡ n + 1 = omega arith in
    let d : ℕ × List ℕ = (0, []) in
    ap (clashes_before path members) one
    ∙ clashes_before-more path members n d (omega arith)
    ∙ ap (λ (xs : List Fault). xs ++ clashes_at path (take n members) (get_or members n d)) (none_each path members n (omega arith) (λ i e below. each i e (omega arith)))
    ∙ each n d (omega arith)

own_from : (path : List ℕ) (members : List (ℕ × List ℕ)) → clashes_of path members ≡ [] → HaveOwnNames members
own_from path members e =
    let each = each_none path members (length members) (omega arith) (clashes_before-all path members (length members) refl ∙ e) in
    record {
      apart = λ i j d before within same.
          let none = (at_none path (take j members) (get_or members j d) (each j d within)).0 in
          let read : get_or (take j members) i d ≡ get_or members i d = grind (arith, common_steps) in
          first_none (take j members) (get_or members j d).1 none i d (grind (arith, common_steps)) (sym (ap (λ (m : ℕ × List ℕ). m.1) read ∙ same));
      no_stats = λ k d within. (at_none path (take k members) (get_or members k d) (each k d within)).1;
    }

from_own : (path : List ℕ) (members : List (ℕ × List ℕ)) → HaveOwnNames members → clashes_of path members ≡ []
from_own path members own =
    sym (clashes_before-all path members (length members) refl)
    ∙ none_each path members (length members) (omega arith) (λ j d within.
    none_at path (take j members) (get_or members j d)
    (none_first (take j members) (get_or members j d).1 (λ i e below same.
    let before : i < j = grind (arith, common_steps) in
    let read : get_or (take j members) i e ≡ get_or members i e = grind (arith, common_steps) in
    let default : get_or members i e ≡ get_or members i d = get_or_default members i e d (omega arith) in
    own.apart i j d before within (sym (same ∙ ap (λ (m : ℕ × List ℕ). m.1) (read ∙ default)))))
    (own.no_stats j d within))

pub no_clash : (path : List ℕ) (members : List (ℕ × List ℕ)) → (clashes_of path members ≡ []) ↔ HaveOwnNames members
no_clash path members = (own_from path members, from_own path members)
