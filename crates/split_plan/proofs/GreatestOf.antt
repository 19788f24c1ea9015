-- The greatest candidate of a list, place by place.
use Rattle.std.proofs.Common.{◌≡◌, ◌≢◌, ℕ, ◌+◌, ◌<◌, Bool, true, false, cond, List, [], ◌∷◌, get_or, length, refl, sym, ap, subst, ◌∙◌, inl, inr, arith}
use Rattle.std.specs.Ordering.{ordering_then, ordering_reverse, int_cmp, is_lt}
use Rattle.std.specs.declared.cmp.Ordering.{Ordering}
use Rattle.std.specs.declared.cmp.Ordering.TheVariants.{Less, Equal, Greater}
use Rattle.std.proofs.lemmas.Bool.{cases_Bool, cases_eq, cond-true, cond-false, true≢false, false≢true}
use Rattle.std.proofs.lemmas.List.{get_or-map}
use Rattle.graph_types.specs.Modules.{Graph}
use Rattle.graph_types.specs.declared.cache_group.CacheGroup.{CacheGroup}
use Rattle.graph_types.specs.declared.config.Config.{Config}
use Rattle.split_plan.specs.declared.candidate.Candidate.{Candidate}
use Rattle.split_plan.specs.Plan.{Plan, plan_of, rule_at, rule_of, no_rule}
use Rattle.split_plan.specs.Order.{order, counts_order, sets_order}
use Rattle.split_plan.proofs.Orders.{order_total}

is_less : (o : Ordering) → is_lt o ≡ true → o ≡ Less
is_less Less e = refl
is_less Equal e = absurd (false≢true e)
is_less Greater e = absurd (false≢true e)

isnt_less : (o : Ordering) → is_lt o ≡ false → o ≢ Less
isnt_less o e h = true≢false (ap is_lt (sym h) ∙ e)

own_less : (p : Plan) (x : Candidate) → order p x x ≢ Less
own_less p x h = absurd (true≢false (ap is_lt (sym h ∙ (order_total p).antisymm x x ∙ ap ordering_reverse h)))

-- the order, from priorities that were read
pub order_by : (graph : Graph) (config : Config) (x y : Candidate) (a b : CacheGroup) → x.cache_group < length config.cache_groups → y.cache_group < length config.cache_groups
    → a ≡ get_or config.cache_groups x.cache_group a → b ≡ get_or config.cache_groups y.cache_group b
    → ordering_then (int_cmp a.priority b.priority) (ordering_then (counts_order x y) (sets_order x y)) ≡ order (plan_of graph config) x y
order_by graph config x y a b lx ly ea eb =
    let rest = ordering_then (counts_order x y) (sets_order x y) in
    let pa = ap (λ g. g.priority) ea ∙ sym (ap (λ r. r.priority) (get_or-map (rule_of graph.records) config.cache_groups x.cache_group a no_rule lx)) in
    let pb = ap (λ g. g.priority) eb ∙ sym (ap (λ r. r.priority) (get_or-map (rule_of graph.records) config.cache_groups y.cache_group b no_rule ly)) in
    ap (λ n. ordering_then (int_cmp n b.priority) rest) pa ∙ ap (λ n. ordering_then (int_cmp (rule_at (plan_of graph config) x.cache_group).priority n) rest) pb

pub record IsGreatestBelow (p : Plan) (list : List Candidate) (end best : ℕ) : Type 0 where
  pub within : best < length list
  pub greatest : (k : ℕ) (d : Candidate) → k < end → order p (get_or list best d) (get_or list k d) ≢ Less

takes : (p : Plan) (list : List Candidate) (best place : ℕ) (d : Candidate) → IsGreatestBelow p list place best → is_lt (order p (get_or list best d) (get_or list place d)) ≡ true
    → (k : ℕ) → k < place + 1 → order p (get_or list place d) (get_or list k d) ≢ Less
takes p list best place d inv less k lt h = elim (cases_eq k place) [
  | inl e ↦ own_less p (get_or list place d) (ap (λ j. order p (get_or list place d) (get_or list j d)) (sym e) ∙ h)
  | inr ne ↦ inv.greatest k d (omega arith) ((order_total p).trans (get_or list best d) (get_or list place d) (get_or list k d) (is_less _ less) h)
]

keeps : (p : Plan) (list : List Candidate) (best place : ℕ) (d : Candidate) → IsGreatestBelow p list place best → is_lt (order p (get_or list best d) (get_or list place d)) ≡ false
    → (k : ℕ) → k < place + 1 → order p (get_or list best d) (get_or list k d) ≢ Less
keeps p list best place d inv less k lt = elim (cases_eq k place) [
  | inl e ↦ isnt_less _ (ap (λ j. is_lt (order p (get_or list best d) (get_or list j d))) e ∙ less)
  | inr ne ↦ inv.greatest k d (omega arith)
]

some_candidate : Candidate
some_candidate = record { cache_group = 0; forced = false; chunks = []; modules = []; size = 0 }

cond_below : (b : Bool) (m n len : ℕ) → m < len → n < len → cond b m n < len
cond_below true m n len l h = l
cond_below false m n len l h = h

pub greatest_first : (p : Plan) (list : List Candidate) → list ≢ [] → IsGreatestBelow p list 1 0
greatest_first p [] ne = absurd (ne refl)
greatest_first p (x ∷ list) ne = record {
  within = omega arith;
  greatest = λ k d lt h. let e : k ≡ 0 = omega arith in own_less p x (ap (λ j. order p x (get_or (x ∷ list) j d)) (sym e) ∙ h);
}

pub greatest_more : (p : Plan) (list : List Candidate) (best place r : ℕ) → IsGreatestBelow p list place best → place < length list
    → ((d : Candidate) → r ≡ cond (is_lt (order p (get_or list best d) (get_or list place d))) place best) → IsGreatestBelow p list (place + 1) r
greatest_more p list best place r inv lt is = record {
  within = let P : ℕ → Type 0 = λ n. n < length list in subst P (sym (is some_candidate)) (cond_below _ place best (length list) lt inv.within);
  greatest = λ k d l. elim (cases_Bool (is_lt (order p (get_or list best d) (get_or list place d)))) [
    | inl e ↦ let P : ℕ → Type 0 = λ n. order p (get_or list n d) (get_or list k d) ≢ Less in
        subst P (sym (is d ∙ cond-true _ place best e)) (takes p list best place d inv e k l)
    | inr e ↦ let P : ℕ → Type 0 = λ n. order p (get_or list n d) (get_or list k d) ≢ Less in
        subst P (sym (is d ∙ cond-false _ place best e)) (keeps p list best place d inv e k l)
  ];
}
