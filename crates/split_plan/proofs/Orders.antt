-- The order of candidates is total, and tells two candidates of one state apart.
use Rattle.std.proofs.Common.{◌≡◌, ℕ, ◌==◌, ◌&&◌, Bool, true, false, List, [], ◌∷◌, length, refl, sym, ap, ◌∙◌, inl, inr, zero-add, arith}
use Rattle.std.specs.List.{list_any, range_with_len}
use Rattle.std.proofs.Math.Bool.{and-true}
use Rattle.std.specs.declared.cmp.Ordering.{Ordering}
use Rattle.std.specs.declared.cmp.Ordering.TheVariants.{Less, Equal, Greater}
use Rattle.std.specs.Ordering.{ordering_then, nat_cmp, bool_cmp}
use Rattle.std.specs.Cmp.{IsTotalOrder, nat_cmp_is, bool_cmp_total}
use Rattle.std.specs.Cmp.Lexicographic.{slice_cmp}
use Rattle.std.proofs.lemmas.Cmp.{then_total, on_total, back_total, nat_cmp_total, int_cmp_total, nat_list_cmp_total}
use Rattle.std.proofs.lemmas.Bool.{cases_order, cases_lt, eqb-true, eq-eqb, and_left}
use Rattle.std.proofs.lemmas.List.{ext_get_or, get_or_past}
use Rattle.std.proofs.lemmas.List.Folds.{list_any_at}
use Rattle.std.proofs.lemmas.List.FromFn.{get_or-range_with_len, length-range_with_len}
use Rattle.std.proofs.lemmas.Map.Views.{any-filter_same}
use Rattle.chunk_graph.specs.Chunks.{is_in, count}
use Rattle.split_plan.specs.declared.candidate.Candidate.{Candidate}
use Rattle.split_plan.specs.Plan.{Plan, rule_at}
use Rattle.split_plan.specs.Order.{order, counts_order, sets_order, places, weight_of}

pub order_total : (p : Plan) → IsTotalOrder (order p)
order_total p =
    then_total (on_total (λ x. (rule_at p x.cache_group).priority) int_cmp_total)
    (then_total
    (then_total (on_total (λ x. count x.chunks) nat_cmp_total) (then_total (on_total weight_of nat_cmp_total)
    (then_total (back_total (on_total (λ x. x.cache_group) nat_cmp_total)) (on_total (λ x. count x.modules) nat_cmp_total))))
    (then_total (back_total (on_total (λ x. places x.modules) nat_list_cmp_total))
    (then_total (back_total (on_total (λ x. places x.chunks) nat_list_cmp_total)) (back_total (on_total (λ x. x.forced) bool_cmp_total)))))

pub then_equal : (a b : Ordering) → ordering_then a b ≡ Equal → (a ≡ Equal) × (b ≡ Equal)
then_equal Less b e = cc
then_equal Equal b e = (refl, e)
then_equal Greater b e = cc

nat_equal : (x y : ℕ) → nat_cmp x y ≡ Equal → x ≡ y
nat_equal x y h = elim (cases_order x y) [
  | inl e ↦ e
  | inr (inl lt) ↦ let e = nat_cmp_is x y Less lt in cc
  | inr (inr gt) ↦ let e = nat_cmp_is x y Greater gt in cc
]

bool_equal : (x y : Bool) → bool_cmp x y ≡ Equal → x ≡ y
bool_equal true true h = refl
bool_equal true false h = cc
bool_equal false true h = cc
bool_equal false false h = refl

lists_equal : (xs ys : List ℕ) → slice_cmp nat_cmp xs ys ≡ Equal → xs ≡ ys
lists_equal [] [] h = refl
lists_equal [] (y ∷ ys) h = cc
lists_equal (x ∷ xs) [] h = cc
lists_equal (x ∷ xs) (y ∷ ys) h =
    let parts = then_equal (nat_cmp x y) (slice_cmp nat_cmp xs ys) h in
    let e = nat_equal x y parts.0 in
    let f = lists_equal xs ys parts.1 in
    ap (λ z. z ∷ xs) e ∙ ap (λ zs. y ∷ zs) f

-- the places of a row are those that are true
pub in_places : (row : List Bool) (i : ℕ) → list_any (λ j. j == i) (places row) ≡ is_in row i
in_places row i =
    let range = range_with_len 0 (length row) in
    let same = any-filter_same (λ j. j == i) (is_in row) (is_in row i) (λ k h. ap (is_in row) (eqb-true k i h)) range in
    elim (cases_lt i (length row)) [
      | inl lt ↦
          let size = length-range_with_len 0 (length row) in
          let here = list_any_at (λ j. j == i) range i 0 (omega arith) (eq-eqb _ i (get_or-range_with_len 0 (length row) i 0 lt ∙ zero-add i)) in
          same ∙ ap (λ b. is_in row i && b) here ∙ and-true (is_in row i)
      | inr ge ↦ let out = get_or_past row i false ge in same ∙ and_left _ _ out ∙ sym out
    ]

pub same_from_places : (xs ys : List Bool) → length xs ≡ length ys → places xs ≡ places ys → xs ≡ ys
same_from_places xs ys len e = ext_get_or false xs ys len (λ i lt. sym (in_places xs i) ∙ ap (list_any (λ j. j == i)) e ∙ in_places ys i)

pub same_fields : (x y : Candidate) → x.cache_group ≡ y.cache_group → x.forced ≡ y.forced → x.chunks ≡ y.chunks → x.modules ≡ y.modules → x.size ≡ y.size → x ≡ y
same_fields x y g f s m z =
    ap (λ v. record { cache_group = v; forced = x.forced; chunks = x.chunks; modules = x.modules; size = x.size }) g
    ∙ ap (λ v. record { cache_group = y.cache_group; forced = v; chunks = x.chunks; modules = x.modules; size = x.size }) f
    ∙ ap (λ v. record { cache_group = y.cache_group; forced = y.forced; chunks = v; modules = x.modules; size = x.size }) s
    ∙ ap (λ v. record { cache_group = y.cache_group; forced = y.forced; chunks = y.chunks; modules = v; size = x.size }) m
    ∙ ap (λ v. record { cache_group = y.cache_group; forced = y.forced; chunks = y.chunks; modules = y.modules; size = v }) z

-- what is equal where the counts are
pub counts_parts : (x y : Candidate) → counts_order x y ≡ Equal → x.cache_group ≡ y.cache_group
counts_parts x y e =
    let a = then_equal (nat_cmp (count x.chunks) (count y.chunks)) _ e in
    let b = then_equal (nat_cmp (weight_of x) (weight_of y)) _ a.1 in
    let c = then_equal (nat_cmp y.cache_group x.cache_group) (nat_cmp (count x.modules) (count y.modules)) b.1 in
    sym (nat_equal y.cache_group x.cache_group c.0)

pub sets_parts : (x y : Candidate) → sets_order x y ≡ Equal → (places x.chunks ≡ places y.chunks) × (x.forced ≡ y.forced)
sets_parts x y e =
    let a = then_equal (slice_cmp nat_cmp (places y.modules) (places x.modules)) _ e in
    let b = then_equal (slice_cmp nat_cmp (places y.chunks) (places x.chunks)) (bool_cmp y.forced x.forced) a.1 in
    (sym (lists_equal (places y.chunks) (places x.chunks) b.0), sym (bool_equal y.forced x.forced b.1))
