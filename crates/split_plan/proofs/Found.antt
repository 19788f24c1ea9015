-- What the search at one module finds.
use Rattle.std.proofs.Common.{◌≡◌, ◌≢◌, ℕ, ◌+◌, ◌-◌, ◌<◌, ◌≤◌, ◌⊎◌, ◌&&◌, Bool, true, false, Option, None, Some, is_some, option_to_list, append-nil, List, [], ◌∷◌, ◌++◌, map, get_or, length, refl, sym, ap, subst, ◌∙◌, inl, inr, arith}
use Rattle.std.specs.List.{range_with_len, list_any, All, Contains}
use Rattle.std.proofs.lemmas.Bool.{cases_eq, cases_lt, cases_Bool, true≢false}
use Rattle.std.proofs.lemmas.List.Elements.{All-push, All-get_or, Contains-append_left, Contains-append_right, Contains-push, All-append}
use Rattle.std.proofs.lemmas.List.{get_or_append_left, get_or-append_right, length-append}
use Rattle.std.proofs.lemmas.List.Quantifiers.{all_pairs_push}
use Rattle.chunk_graph.specs.Chunks.{State, IsSound, chunk_at, is_in, count, holds}
use Rattle.split_plan.specs.declared.candidate.Candidate.{Candidate}
use Rattle.split_plan.specs.declared.rule.Rule.{Rule}
use Rattle.split_plan.specs.Plan.{Plan, IsPlan, rule_at}
use Rattle.split_plan.specs.Candidates.{IsCandidate, Arises, Lists, modules_for, size_of, bound_of}
use Rattle.split_plan.specs.Shares.{sharers, meets, is_reached, may_share, is_shared}
use Rattle.std.proofs.lemmas.List.FromFn.{get_or-map-range_with_len, length-map-range_with_len}
use Rattle.bit_rows.specs.Places.{NoneTrue}
use Rattle.split_plan.specs.inner.Rows.{column, columns_of}
use Rattle.split_plan.specs.inner.Search.{IsOfForm, IsFoundBelow, MatchFound, IsSearch, IsEarlier, goes_with, IsOfGroupBelow}
use Rattle.split_plan.proofs.Places.{is_in-below}
use Rattle.split_plan.proofs.Sets.{count_none, none_is_none, modules_are, sharer_holds}
use Rattle.split_plan.proofs.Orders.{same_fields, then_equal, counts_parts, sets_parts, same_from_places}
use Rattle.std.specs.declared.cmp.Ordering.TheVariants.{Equal}
use Rattle.std.specs.Ordering.{ordering_then, int_cmp}
use Rattle.split_plan.specs.Order.{order, counts_order, sets_order}

-- a candidate is told by its cache group, its form and its chunks
pub told_by : (p : Plan) (s : State) (x y : Candidate) → IsCandidate p s x → IsCandidate p s y → x.cache_group ≡ y.cache_group → x.forced ≡ y.forced → x.chunks ≡ y.chunks → x ≡ y
told_by p s x y cx cy g f c =
    let modules = cx.modules ∙ ap (λ k. modules_for (rule_at p k) x.forced s (length p.sizes) x.chunks) g ∙ ap (λ b. modules_for (rule_at p y.cache_group) b s (length p.sizes) x.chunks) f
    ∙ ap (modules_for (rule_at p y.cache_group) y.forced s (length p.sizes)) c ∙ sym cy.modules in
    same_fields x y g f c modules (cx.size ∙ ap (size_of p.sizes) modules ∙ sym cy.size)

-- one of the form is found again wherever its chunks are
found_at : (p : Plan) (s : State) (k : ℕ) (forced : Bool) (end m : ℕ) (x : Candidate) → IsOfForm p s k forced x → m < end → meets (rule_at p k) m ≡ true → sharers (rule_at p k) forced s m ≡ x.chunks
    → IsFoundBelow p s k forced end x
found_at p s k forced end m x of lt tested shares = record { of = of; «module» = m; below = lt; tested = tested; shares = shares }

pub none_at : (p : Plan) (s : State) (k : ℕ) (forced : Bool) (at : ℕ)
    → ((x : Candidate) → IsOfForm p s k forced x → meets (rule_at p k) at ≡ true → sharers (rule_at p k) forced s at ≡ x.chunks → ⊥)
    → (x : Candidate) → IsFoundBelow p s k forced (at + 1) x → IsFoundBelow p s k forced at x
none_at p s k forced at never x found = elim (cases_eq found.«module» at) [
  | inl e ↦ absurd (never x found.of (ap (meets (rule_at p k)) (sym e) ∙ found.tested) (ap (sharers (rule_at p k) forced s) (sym e) ∙ found.shares))
  | inr ne ↦ found_at p s k forced at found.«module» x found.of (let b = found.below in omega arith) found.tested found.shares
]

pub earlier_at : (p : Plan) (s : State) (k : ℕ) (forced : Bool) (at m : ℕ) → m < at → meets (rule_at p k) m ≡ true → sharers (rule_at p k) forced s m ≡ sharers (rule_at p k) forced s at
    → (x : Candidate) → IsFoundBelow p s k forced (at + 1) x → IsFoundBelow p s k forced at x
earlier_at p s k forced at m lt tested same x found = elim (cases_eq found.«module» at) [
  | inl e ↦ found_at p s k forced at m x found.of lt tested (same ∙ ap (sharers (rule_at p k) forced s) (sym e) ∙ found.shares)
  | inr ne ↦ found_at p s k forced at found.«module» x found.of (let b = found.below in omega arith) found.tested found.shares
]

pub lifted : (p : Plan) (s : State) (k : ℕ) (forced : Bool) (at : ℕ) (x : Candidate) → IsFoundBelow p s k forced at x → IsFoundBelow p s k forced (at + 1) x
lifted p s k forced at x f = found_at p s k forced (at + 1) f.«module» x f.of (let b = f.below in omega arith) f.tested f.shares

pub lists_same : {X : Type 0} (P Q : X → Type 0) (xs : List X) → Lists P xs → ((x : X) → P x → Q x) → ((x : X) → Q x → P x) → Lists Q xs
lists_same P Q xs h f g = record {
  each = λ i d lt. f _ (All-get_or P xs i d lt h.each);
  whole = λ x q. h.whole x (g x q);
  once = h.once;
}

pub lists_push : {X : Type 0} (P Q : X → Type 0) (xs : List X) (x : X) → Lists P xs → ((y : X) → P y → Q y) → Q x → ¬ (P x) → ((y : X) → Q y → P y ⊎ (y ≡ x)) → Lists Q (xs ++ x ∷ [])
lists_push {X} P Q xs x h f q never split =
    let apart : (i : ℕ) (d : X) → i < length xs → get_or xs i d ≢ x = λ i d lt e. never (subst P e (All-get_or P xs i d lt h.each)) in
    let old : All Q xs = λ i d lt. f _ (All-get_or P xs i d lt h.each) in
    record {
      each = All-push Q xs x old q;
      whole = λ y w. elim (split y w) [
        | inl p ↦ Contains-append_left xs (x ∷ []) y (h.whole y p)
        | inr e ↦ (let R : _ → Type 0 = λ z. Contains (xs ++ x ∷ []) z in subst R (sym e) (Contains-push xs x))
      ];
      once = all_pairs_push (λ (a : X) (b : X). a ≢ b) xs x h.once apart;
    }

-- ---- one module

pub some_isnt_none : (name : List ℕ) → Some name ≡ None → ⊥
some_isnt_none name e = true≢false (ap is_some e)

pub share_at : (p : Plan) (s : State) (k : ℕ) (forced : Bool) (rule : Rule) (shares : List (List Bool)) (m : ℕ) (d : List Bool) → IsSearch p s k forced rule shares → m < length p.sizes
    → get_or shares m d ≡ sharers (rule_at p k) forced s m
share_at p s k forced rule shares m d h lt =
    ap (λ rows. get_or rows m d) h.shares_are ∙ get_or-map-range_with_len (sharers rule forced s) 0 (length p.sizes) m m d lt (omega arith) ∙ ap (λ r. sharers r forced s m) h.rule_is

-- the chunks of a candidate of the form are enough
pub enough_for : (p : Plan) (s : State) (k : ℕ) (forced : Bool) (x : Candidate) → IsOfForm p s k forced x → (rule_at p k).min_chunks ≤ count x.chunks
enough_for p s k forced x of = let P : ℕ → Type 0 = λ j. (rule_at p j).min_chunks ≤ count x.chunks in subst P of.group of.is.enough

pub chunk_below : (p : Plan) (s : State) (k : ℕ) (forced : Bool) (rule : Rule) (shares : List (List Bool)) (at i : ℕ) (chunks : List Bool) → IsSearch p s k forced rule shares → at < length p.sizes
    → chunks ≡ get_or shares at chunks → is_in chunks i ≡ true → i < length s.chunks
chunk_below p s k forced rule shares at i chunks h lt read there =
    let e = read ∙ share_at p s k forced rule shares at chunks h lt in
    let size = length-map-range_with_len (λ j. may_share (rule_at p k) forced s j && holds s j at) 0 (length s.chunks) in
    omega (arith, size, is_in-below (sharers (rule_at p k) forced s at) i (sym (ap (λ row. is_in row i) e) ∙ there))

pub exit_few : (p : Plan) (s : State) (k : ℕ) (forced : Bool) (rule : Rule) (shares : List (List Bool)) (at : ℕ) (chunks : List Bool) → IsSearch p s k forced rule shares → at < length p.sizes
    → chunks ≡ get_or shares at chunks → count chunks < rule.min_chunks → MatchFound p s k forced at None
exit_few p s k forced rule shares at chunks h lt read few = none_at p s k forced at (λ x of tested same.
    let e : chunks ≡ x.chunks = read ∙ share_at p s k forced rule shares at chunks h lt ∙ same in
    omega (arith, enough_for p s k forced x of, ap count e, ap (λ r. r.min_chunks) h.rule_is))

pub exit_none : (p : Plan) (s : State) (k : ℕ) (forced : Bool) (rule : Rule) (shares : List (List Bool)) (at : ℕ) (chunks : List Bool) → IsSearch p s k forced rule shares → at < length p.sizes
    → chunks ≡ get_or shares at chunks → NoneTrue chunks 0 (length chunks) → MatchFound p s k forced at None
exit_none p s k forced rule shares at chunks h lt read none =
    exit_few p s k forced rule shares at chunks h lt read (omega (arith, count_none chunks (none_is_none chunks none), h.counted))

pub exit_test : (p : Plan) (s : State) (k : ℕ) (forced : Bool) (rule : Rule) (shares : List (List Bool)) (at : ℕ) → IsSearch p s k forced rule shares
    → is_in rule.test at ≡ false → MatchFound p s k forced at None
exit_test p s k forced rule shares at h fails = none_at p s k forced at (λ x of tested same. true≢false (sym tested ∙ ap (λ r. meets r at) (sym h.rule_is) ∙ fails))

pub exit_earlier : (p : Plan) (s : State) (k : ℕ) (forced : Bool) (rule : Rule) (shares : List (List Bool)) (mods : List Bool) (at : ℕ) → IsSearch p s k forced rule shares → at < length p.sizes
    → (m : ℕ) × IsEarlier rule shares mods at m → MatchFound p s k forced at None
exit_earlier p s k forced rule shares mods at h lt (m, e) =
    earlier_at p s k forced at m e.before (ap (λ r. meets r m) (sym h.rule_is) ∙ e.tested)
    (sym (share_at p s k forced rule shares m [] h (omega (arith, e.before))) ∙ e.same ∙ share_at p s k forced rule shares at [] h lt)

-- the modules that were worked out are those of a candidate with these chunks
modules_at : (p : Plan) (s : State) (k : ℕ) (forced : Bool) (rule : Rule) (shares : List (List Bool)) (at first : ℕ) (chunks modules : List Bool) → IsSearch p s k forced rule shares → rule.name ≡ None
    → is_in chunks first ≡ true
    → modules ≡ map (λ m. is_in (chunk_at s first).mods m && goes_with rule shares chunks m) (range_with_len 0 (length shares))
    → modules ≡ modules_for (rule_at p k) forced s (length p.sizes) chunks
modules_at p s k forced rule shares at first chunks modules h unnamed there is =
    is ∙ modules_are rule forced s (length p.sizes) first shares chunks unnamed h.shares_are there ∙ ap (λ r. modules_for r forced s (length p.sizes) chunks) h.rule_is

pub exit_small : (p : Plan) (s : State) (k : ℕ) (forced : Bool) (rule : Rule) (shares : List (List Bool)) (at first : ℕ) (chunks modules : List Bool) (size : ℕ) → IsSearch p s k forced rule shares → at < length p.sizes
    → rule.name ≡ None → chunks ≡ get_or shares at chunks → is_in chunks first ≡ true
    → modules ≡ map (λ m. is_in (chunk_at s first).mods m && goes_with rule shares chunks m) (range_with_len 0 (length shares))
    → size ≡ size_of p.sizes modules → is_reached (bound_of rule forced) size ≡ false → MatchFound p s k forced at None
exit_small p s k forced rule shares at first chunks modules size h lt unnamed read there is size_is small = none_at p s k forced at (λ x of tested same.
    let e : chunks ≡ x.chunks = read ∙ share_at p s k forced rule shares at chunks h lt ∙ same in
    let own : x.modules ≡ modules_for (rule_at p k) forced s (length p.sizes) chunks =
    of.is.modules ∙ ap (λ j. modules_for (rule_at p j) x.forced s (length p.sizes) x.chunks) of.group ∙ ap (λ b. modules_for (rule_at p k) b s (length p.sizes) x.chunks) of.form
    ∙ ap (modules_for (rule_at p k) forced s (length p.sizes)) (sym e) in
    let z : size ≡ x.size = size_is ∙ ap (size_of p.sizes) (modules_at p s k forced rule shares at first chunks modules h unnamed there is ∙ sym own) ∙ sym of.is.size in
    let large : is_reached (bound_of (rule_at p k) forced) size ≡ true =
    ap (λ n. is_reached (bound_of (rule_at p k) forced) n) z ∙ ap (λ b. is_reached (bound_of (rule_at p k) b) x.size) (sym of.form)
    ∙ ap (λ j. is_reached (bound_of (rule_at p j) x.forced) x.size) (sym of.group) ∙ of.is.large in
    true≢false (sym large ∙ ap (λ r. is_reached (bound_of r forced) size) (sym h.rule_is) ∙ small))

arises_unnamed : (name : Option (List ℕ)) (rule : Rule) (k : ℕ) (forced : Bool) (s : State) (width m : ℕ) (set : List Bool) → name ≡ None → m < width → meets rule m ≡ true → sharers rule forced s m ≡ set
    → Arises name rule k forced s width set
arises_unnamed None rule k forced s width m set e lt tested same = (m, lt, tested, same)
arises_unnamed (Some name) rule k forced s width m set e lt tested same = absurd (some_isnt_none name e)

pub exit_found : (p : Plan) (s : State) (k : ℕ) (forced : Bool) (rule : Rule) (shares : List (List Bool)) (at first : ℕ) (chunks copy modules : List Bool) (size : ℕ) → IsSearch p s k forced rule shares → at < length p.sizes
    → rule.name ≡ None → chunks ≡ get_or shares at chunks → is_in chunks first ≡ true → is_in rule.test at ≡ true → rule.min_chunks ≤ count chunks
    → ((m : ℕ) → ¬ (IsEarlier rule shares (chunk_at s first).mods at m))
    → modules ≡ map (λ m. is_in (chunk_at s first).mods m && goes_with rule shares chunks m) (range_with_len 0 (length shares))
    → size ≡ size_of p.sizes modules → is_reached (bound_of rule forced) size ≡ true → copy ≡ chunks
    → MatchFound p s k forced at (Some (record { cache_group = k; forced = forced; chunks = copy; modules = modules; size = size }))
exit_found p s k forced rule shares at first chunks copy modules size h lt unnamed read there tested enough none is size_is large copy_is =
    let here : sharers (rule_at p k) forced s at ≡ copy = sym (copy_is ∙ read ∙ share_at p s k forced rule shares at chunks h lt) in
    let met : meets (rule_at p k) at ≡ true = ap (λ r. meets r at) (sym h.rule_is) ∙ tested in
    let of : IsOfForm p s k forced (record { cache_group = k; forced = forced; chunks = copy; modules = modules; size = size }) = record {
      is = record {
        known = h.known;
        arises = arises_unnamed (rule_at p k).name (rule_at p k) k forced s (length p.sizes) at copy (ap (λ r. r.name) (sym h.rule_is) ∙ unnamed) lt met here;
        modules = modules_at p s k forced rule shares at first chunks modules h unnamed there is ∙ ap (modules_for (rule_at p k) forced s (length p.sizes)) (sym copy_is);
        size = size_is;
        enough = omega (arith, enough, ap count copy_is, ap (λ r. r.min_chunks) h.rule_is);
        large = ap (λ r. is_reached (bound_of r forced) size) (sym h.rule_is) ∙ large;
      };
      group = refl;
      form = refl;
    } in (
      found_at p s k forced (at + 1) at _ of (omega arith) met here,
      λ f. none f.«module» (record {
        before = f.below;
        held = (sharer_holds (rule_at p k) forced s f.«module» first (ap (λ row. is_in row first) (f.shares ∙ copy_is) ∙ there)).1;
        tested = ap (λ r. meets r f.«module») h.rule_is ∙ f.tested;
        same = share_at p s k forced rule shares f.«module» [] h (let b = f.below in omega arith) ∙ f.shares ∙ sym here ∙ sym (share_at p s k forced rule shares at [] h lt);
      }),
    )

-- ---- all modules

pub step_none : (p : Plan) (s : State) (k : ℕ) (forced : Bool) (at : ℕ) (xs : List Candidate) → Lists (IsFoundBelow p s k forced at) xs → MatchFound p s k forced at None → Lists (IsFoundBelow p s k forced (at + 1)) xs
step_none p s k forced at xs h none = lists_same (IsFoundBelow p s k forced at) (IsFoundBelow p s k forced (at + 1)) xs h (lifted p s k forced at) none

pub step_some : (p : Plan) (s : State) (k : ℕ) (forced : Bool) (at : ℕ) (xs : List Candidate) (x : Candidate) → Lists (IsFoundBelow p s k forced at) xs → MatchFound p s k forced at (Some x)
    → Lists (IsFoundBelow p s k forced (at + 1)) (xs ++ x ∷ [])
step_some p s k forced at xs x h (own, never) = lists_push (IsFoundBelow p s k forced at) (IsFoundBelow p s k forced (at + 1)) xs x h (lifted p s k forced at) own never (λ y found.
    elim (cases_eq found.«module» at) [
      | inl e ↦ inr (
          elim (cases_eq own.«module» at) [
            | inl f ↦ told_by p s y x found.of.is own.of.is (found.of.group ∙ sym own.of.group) (found.of.form ∙ sym own.of.form) (sym found.shares ∙ ap (sharers (rule_at p k) forced s) (e ∙ sym f) ∙ own.shares)
            | inr ne ↦ absurd (never (found_at p s k forced at own.«module» x own.of (let b = own.below in omega arith) own.tested own.shares))
          ])
      | inr ne ↦ inl (found_at p s k forced at found.«module» y found.of (let b = found.below in omega arith) found.tested found.shares)
    ])

from_arises : (name : Option (List ℕ)) (rule : Rule) (k : ℕ) (forced : Bool) (s : State) (width : ℕ) (set : List Bool) → name ≡ None → Arises name rule k forced s width set
    → (m : ℕ) × (m < width) × (meets rule m ≡ true) × (sharers rule forced s m ≡ set)
from_arises None rule k forced s width set e a = a
from_arises (Some name) rule k forced s width set e a = absurd (some_isnt_none name e)

pub found_all : (p : Plan) (s : State) (k : ℕ) (forced : Bool) (xs : List Candidate) → (rule_at p k).name ≡ None → Lists (IsFoundBelow p s k forced (length p.sizes)) xs → Lists (IsOfForm p s k forced) xs
found_all p s k forced xs unnamed h = lists_same (IsFoundBelow p s k forced (length p.sizes)) (IsOfForm p s k forced) xs h (λ x f. f.of) (λ x of.
    let name = ap (λ j. (rule_at p j).name) of.group ∙ unnamed in
    let a = from_arises (rule_at p x.cache_group).name (rule_at p x.cache_group) x.cache_group x.forced s (length p.sizes) x.chunks name of.is.arises in
    found_at p s k forced (length p.sizes) a.0 x of a.1 (ap (λ j. meets (rule_at p j) a.0) (sym of.group) ∙ a.2)
    (ap (λ b. sharers (rule_at p k) b s a.0) (sym of.form) ∙ ap (λ j. sharers (rule_at p j) x.forced s a.0) (sym of.group) ∙ a.3))

pub none_below : (p : Plan) (s : State) (k : ℕ) (forced : Bool) → Lists (IsFoundBelow p s k forced 0) []
none_below p s k forced = record {
  each = λ i d lt. absurd (omega arith);
  whole = λ x f. absurd (let b = f.below in omega arith);
  once = λ i j d lt l. absurd (omega arith);
}

-- one step of the search, whatever it found
pub step : (p : Plan) (s : State) (k : ℕ) (forced : Bool) (at : ℕ) (xs ys : List Candidate) (o : Option Candidate) → Lists (IsFoundBelow p s k forced at) xs → MatchFound p s k forced at o
    → ys ≡ xs ++ option_to_list o → Lists (IsFoundBelow p s k forced (at + 1)) ys
step p s k forced at xs ys None h m e = let P : List Candidate → Type 0 = λ zs. Lists (IsFoundBelow p s k forced (at + 1)) zs in
    subst P (sym (e ∙ append-nil xs)) (step_none p s k forced at xs h m)
step p s k forced at xs ys (Some x) h m e = let P : List Candidate → Type 0 = λ zs. Lists (IsFoundBelow p s k forced (at + 1)) zs in
    subst P (sym e) (step_some p s k forced at xs x h m)

-- ---- lists put together

pub lists_append : {X : Type 0} (P Q R : X → Type 0) (xs ys : List X) → Lists P xs → Lists Q ys → ((x : X) → P x → R x) → ((x : X) → Q x → R x) → ((x : X) → R x → P x ⊎ Q x) → ((x : X) → P x → ¬ (Q x))
    → Lists R (xs ++ ys)
lists_append {X} P Q R xs ys a b f g split apart =
    let left : All R xs = λ i d lt. f _ (All-get_or P xs i d lt a.each) in
    let right : All R ys = λ i d lt. g _ (All-get_or Q ys i d lt b.each) in
    let size = length-append xs ys in
    record {
      each = All-append R xs ys left right;
      whole = λ x r. elim (split x r) [
        | inl p ↦ Contains-append_left xs ys x (a.whole x p)
        | inr q ↦ Contains-append_right xs ys x (b.whole x q)
      ];
      once = λ i j d lt l. elim (cases_lt j (length xs)) [
        | inl near ↦ λ e. a.once i j d lt near (sym (get_or_append_left xs ys d i (omega arith)) ∙ e ∙ get_or_append_left xs ys d j near)
        | inr far ↦ elim (cases_lt i (length xs)) [
          | inl near ↦ λ e. apart (get_or xs i d) (All-get_or P xs i d near a.each)
              (let T : X → Type 0 = λ z. Q z in
              subst T (sym (sym (get_or_append_left xs ys d i near) ∙ e ∙ get_or-append_right xs ys (length xs) j d refl far)) (All-get_or Q ys (j - length xs) d (omega arith) b.each))
          | inr past ↦ λ e. b.once (i - length xs) (j - length xs) d (omega arith) (omega arith)
              (sym (get_or-append_right xs ys (length xs) i d refl past) ∙ e ∙ get_or-append_right xs ys (length xs) j d refl far)
        ]
      ];
    }

-- a candidate of the groups below this one, or of this one in the first form
pub record IsBeforeForced (p : Plan) (s : State) (k : ℕ) (x : Candidate) : Type 0 where
  pub is : IsCandidate p s x
  pub place : (x.cache_group < k) ⊎ ((x.cache_group ≡ k) × (x.forced ≡ false))

pub with_limited : (p : Plan) (s : State) (k : ℕ) (xs ys : List Candidate) → Lists (IsOfGroupBelow p s k) xs → Lists (IsOfForm p s k false) ys → Lists (IsBeforeForced p s k) (xs ++ ys)
with_limited p s k xs ys a b = lists_append (IsOfGroupBelow p s k) (IsOfForm p s k false) (IsBeforeForced p s k) xs ys a b
    (λ x h. record { is = h.is; place = inl h.below })
    (λ x h. record { is = h.is; place = inr (h.group, h.form) })
    (λ x h. elim h.place [ inl l ↦ inl (record { is = h.is; below = l }) | inr (e, f) ↦ inr (record { is = h.is; group = e; form = f }) ])
    (λ x h g. omega (arith, h.below, g.group))

pub with_forced : (p : Plan) (s : State) (k : ℕ) (xs ys : List Candidate) → Lists (IsBeforeForced p s k) xs → Lists (IsOfForm p s k true) ys → Lists (IsOfGroupBelow p s (k + 1)) (xs ++ ys)
with_forced p s k xs ys a b = lists_append (IsBeforeForced p s k) (IsOfForm p s k true) (IsOfGroupBelow p s (k + 1)) xs ys a b
    (λ x h. record { is = h.is; below = elim h.place [ inl l ↦ omega arith | inr (e, f) ↦ omega arith ] })
    (λ x h. record { is = h.is; below = omega (arith, h.group) })
    (λ x h. elim (cases_lt x.cache_group k) [
      | inl l ↦ inl (record { is = h.is; place = inl l })
      | inr ge ↦ let b = h.below in let e : x.cache_group ≡ k = omega arith in elim (cases_Bool x.forced) [
        | inl t ↦ inr (record { is = h.is; group = e; form = t })
        | inr f ↦ inl (record { is = h.is; place = inr (e, f) })
      ]
    ])
    (λ x h g. elim h.place [ inl l ↦ omega (arith, g.group) | inr (e, f) ↦ true≢false (sym g.form ∙ f) ])

pub all_groups : (p : Plan) (s : State) (xs : List Candidate) → Lists (IsOfGroupBelow p s (length p.rules)) xs → Lists (IsCandidate p s) xs
all_groups p s xs h = lists_same (IsOfGroupBelow p s (length p.rules)) (IsCandidate p s) xs h (λ x b. b.is) (λ x is. record { is = is; below = is.known })

-- ---- what the search in a form goes by

pub share_len : (p : Plan) (s : State) (k : ℕ) (forced : Bool) (rule : Rule) (shares : List (List Bool)) (m : ℕ) → IsSearch p s k forced rule shares → m < length shares → length (get_or shares m []) ≡ length s.chunks
share_len p s k forced rule shares m h lt =
    ap length (share_at p s k forced rule shares m [] h (omega (arith, h.len))) ∙ length-map-range_with_len (λ j. may_share (rule_at p k) forced s j && holds s j m) 0 (length s.chunks)

pub columns_len : (s : State) (columns : List (List Bool)) (width : ℕ) → columns ≡ columns_of s width → length columns ≡ width
columns_len s columns width is = ap length is ∙ length-map-range_with_len (column s) 0 width

pub search_from : (p : Plan) (s : State) (k : ℕ) (forced : Bool) (rule : Rule) (columns shares : List (List Bool)) → IsPlan p → IsSound s → k < length p.rules → s.width ≡ length p.sizes
    → rule ≡ rule_at p k → columns ≡ columns_of s (length p.sizes) → shares ≡ map (sharers rule forced s) (range_with_len 0 (length columns)) → IsSearch p s k forced rule shares
search_from p s k forced rule columns shares plan sound lt width rule_is is shares_is =
    let size = columns_len s columns (length p.sizes) is in
    record {
      known = lt;
      slot = omega (arith, plan.few);
      rule_is = rule_is;
      counted = omega (arith, plan.counted k, ap (λ r. r.min_chunks) rule_is);
      test = ap (λ r. length r.test) rule_is ∙ plan.tested k lt;
      width = width;
      small = plan.small;
      wide = omega (arith, sound.wide);
      len = ap length shares_is ∙ length-map-range_with_len (sharers rule forced s) 0 (length columns) ∙ size;
      shares_are = shares_is ∙ ap (λ n. map (sharers rule forced s) (range_with_len 0 n)) size;
    }

-- ---- the order tells candidates apart

pub chunks_len : (name : Option (List ℕ)) (rule : Rule) (k : ℕ) (forced : Bool) (s : State) (width : ℕ) (set : List Bool) → Arises name rule k forced s width set → length set ≡ length s.chunks
chunks_len None rule k forced s width set (m, lt, tested, same) = ap length (sym same) ∙ length-map-range_with_len (λ i. may_share rule forced s i && holds s i m) 0 (length s.chunks)
chunks_len (Some name) rule k forced s width set (spent, same) =
    ap length (sym same) ∙ length-map-range_with_len (λ i. list_any (λ m. is_shared rule forced s m && is_in (sharers rule forced s m) i) (range_with_len 0 width)) 0 (length s.chunks)

pub same_from_order : (p : Plan) (s : State) (x y : Candidate) → IsCandidate p s x → IsCandidate p s y → order p x y ≡ Equal → x ≡ y
same_from_order p s x y cx cy e =
    let all = then_equal (int_cmp (rule_at p x.cache_group).priority (rule_at p y.cache_group).priority) (ordering_then (counts_order x y) (sets_order x y)) e in
    let rest = then_equal (counts_order x y) (sets_order x y) all.1 in
    let parts = counts_parts x y rest.0 in
    let sets = sets_parts x y rest.1 in
    let len : length x.chunks ≡ length y.chunks =
    chunks_len (rule_at p x.cache_group).name (rule_at p x.cache_group) x.cache_group x.forced s (length p.sizes) x.chunks cx.arises
    ∙ sym (chunks_len (rule_at p y.cache_group).name (rule_at p y.cache_group) y.cache_group y.forced s (length p.sizes) y.chunks cy.arises) in
    told_by p s x y cx cy parts sets.1 (same_from_places x.chunks y.chunks len sets.0)
