-- Sets of chunks, and the modules that go with them.
use Rattle.std.proofs.Common.{◌≡◌, ℕ, ◌+◌, ◌<◌, ◌≤◌, ◌↔◌, zero, suc, Bool, true, false, not, ◌&&◌, ◌||◌, Option, None, Some, cond, List, [], ◌∷◌, map, get_or, length, refl, sym, ap, ◌∙◌, inl, inr, arith}
use Rattle.std.specs.List.{list_all, range_with_len}
use Rattle.std.proofs.lemmas.Bool.{and_parts, and_from, or_cases, or_left, or_right, cases_Bool, cases_lt, not-true, not_from_false, true≢false}
use Rattle.std.proofs.lemmas.List.{get_or_past}
use Rattle.std.proofs.lemmas.List.FromFn.{get_or-map-range_with_len, length-map-range_with_len}
use Rattle.std.proofs.lemmas.List.Sums.{sum_by-cons}
use Rattle.bit_rows.specs.Places.{IsSubset, NoneTrue}
use Rattle.chunk_graph.specs.Chunks.{State, chunk_at, is_in, count, holds}
use Rattle.split_plan.specs.declared.rule.Rule.{Rule}
use Rattle.split_plan.specs.Candidates.{lies_in, goes, modules_for}
use Rattle.split_plan.specs.Shares.{may_share, sharers, meets}
use Rattle.split_plan.specs.inner.Search.{goes_with}
use Rattle.split_plan.proofs.Places.{is_in-below}

all_range : (p : ℕ → Bool) (a n : ℕ) → ((k : ℕ) → a ≤ k → k < a + n → p k ≡ true) → list_all p (range_with_len a n) ≡ true
all_range p a zero h = refl
all_range p a (suc n) h = and_from (p a) _ (h a (omega arith) (omega arith)) (all_range p (a + 1) n (λ k l b. h k (omega arith) (omega arith)))

at_range : (p : ℕ → Bool) (a n k : ℕ) → list_all p (range_with_len a n) ≡ true → a ≤ k → k < a + n → p k ≡ true
at_range p a zero k h l b = absurd (omega arith)
at_range p a (suc n) k h l b =
    let parts = and_parts (p a) (list_all p (range_with_len (a + 1) n)) h in
    elim (cases_lt a k) [
      | inl lt ↦ at_range p (a + 1) n k parts.1 (omega arith) (omega arith)
      | inr ge ↦ let e : a ≡ k = omega arith in ap p (sym e) ∙ parts.0
    ]

pub lies_at : (xs ys : List Bool) (i : ℕ) → lies_in xs ys ≡ true → is_in xs i ≡ true → is_in ys i ≡ true
lies_at xs ys i h e =
    elim (or_cases (not (is_in xs i)) (is_in ys i) (at_range (λ j. not (is_in xs j) || is_in ys j) 0 (length xs) i h (omega arith) (omega (arith, is_in-below xs i e)))) [
      | inl n ↦ absurd (true≢false (sym e ∙ not-true (is_in xs i) n))
      | inr y ↦ y
    ]

pub lies_from : (xs ys : List Bool) → IsSubset xs ys → lies_in xs ys ≡ true
lies_from xs ys sub = all_range (λ j. not (is_in xs j) || is_in ys j) 0 (length xs) (λ k l b. elim (cases_Bool (is_in xs k)) [
  | inl t ↦ or_right (not (is_in xs k)) (is_in ys k) (sub k t)
  | inr f ↦ or_left (not (is_in xs k)) (is_in ys k) (not_from_false (is_in xs k) f)
])

same_truth : (b c : Bool) → (b ≡ true → c ≡ true) → (c ≡ true → b ≡ true) → b ≡ c
same_truth true c f g = sym (f refl)
same_truth false true f g = g refl
same_truth false false f g = refl

pub subset_test : (b : Bool) (xs ys : List Bool) → ((b ≡ true) ↔ IsSubset xs ys) → b ≡ lies_in xs ys
subset_test b xs ys h = same_truth b (lies_in xs ys) (λ t. lies_from xs ys (h.0 t)) (λ t. h.1 (λ i e. lies_at xs ys i t e))

pub sharer_holds : (rule : Rule) (forced : Bool) (s : State) (m i : ℕ) → is_in (sharers rule forced s m) i ≡ true → (may_share rule forced s i ≡ true) × (holds s i m ≡ true)
sharer_holds rule forced s m i h =
    let row = sharers rule forced s m in
    let lt = is_in-below row i h in
    let size = length-map-range_with_len (λ j. may_share rule forced s j && holds s j m) 0 (length s.chunks) in
    let e = get_or-map-range_with_len (λ j. may_share rule forced s j && holds s j m) 0 (length s.chunks) i i false (omega arith) (omega arith) in
    and_parts (may_share rule forced s i) (holds s i m) (sym e ∙ h)

-- no true place: the count is 0
pub count_none : (row : List Bool) → ((i : ℕ) → is_in row i ≡ false) → count row ≡ 0
count_none [] h = refl
count_none (true ∷ row) h = absurd (true≢false (h 0))
count_none (false ∷ row) h = let c = count_none row (λ i. h (suc i)) in omega (arith, c, sum_by-cons (λ x. cond x 1 0) false row)

pub none_is_none : (places : List Bool) → NoneTrue places 0 (length places) → (i : ℕ) → is_in places i ≡ false
none_is_none places none i = elim (cases_lt i (length places)) [ inl lt ↦ none i (omega arith) lt | inr ge ↦ get_or_past places i false ge ]

pub map_range_same : (f g : ℕ → Bool) (a n : ℕ) → ((k : ℕ) → a ≤ k → k < a + n → f k ≡ g k) → map f (range_with_len a n) ≡ map g (range_with_len a n)
map_range_same f g a zero h = refl
map_range_same f g a (suc n) h = ap (λ b. b ∷ map f (range_with_len (a + 1) n)) (h a (omega arith) (omega arith)) ∙ ap (λ r. g a ∷ r) (map_range_same f g (a + 1) n (λ k l b. h k (omega arith) (omega arith)))

pub goes_unnamed : (name : Option (List ℕ)) (rule : Rule) (forced : Bool) (s : State) (set : List Bool) (m : ℕ) → name ≡ None → goes name rule forced s set m ≡ (meets rule m && lies_in set (sharers rule forced s m))
goes_unnamed None rule forced s set m e = refl
goes_unnamed (Some name) rule forced s set m e = cc

drop_held : (held b : Bool) → (b ≡ true → held ≡ true) → (held && b) ≡ b
drop_held true b h = refl
drop_held false true h = h refl
drop_held false false h = refl

-- what goes with a set of chunks is held by each chunk of it
pub modules_are : (rule : Rule) (forced : Bool) (s : State) (width first : ℕ) (shares : List (List Bool)) (set : List Bool) → rule.name ≡ None
    → shares ≡ map (sharers rule forced s) (range_with_len 0 width) → is_in set first ≡ true
    → map (λ m. is_in (chunk_at s first).mods m && goes_with rule shares set m) (range_with_len 0 (length shares)) ≡ modules_for rule forced s width set
modules_are rule forced s width first shares set unnamed is there =
    let size : length shares ≡ width = ap length is ∙ length-map-range_with_len (sharers rule forced s) 0 width in
    let f : ℕ → Bool = λ m. is_in (chunk_at s first).mods m && goes_with rule shares set m in
    ap (λ n. map f (range_with_len 0 n)) size
    ∙ map_range_same f (goes rule.name rule forced s set) 0 width (λ m l b.
    let row : get_or shares m [] ≡ sharers rule forced s m = ap (λ rows. get_or rows m []) is ∙ get_or-map-range_with_len (sharers rule forced s) 0 width m m [] (omega arith) (omega arith) in
    drop_held (is_in (chunk_at s first).mods m) (goes_with rule shares set m) (λ h.
    (sharer_holds rule forced s m first (lies_at set (sharers rule forced s m) first (ap (lies_in set) (sym row) ∙ (and_parts (meets rule m) (lies_in set (get_or shares m [])) h).1) there)).1)
    ∙ ap (λ r. meets rule m && lies_in set r) row ∙ sym (goes_unnamed rule.name rule forced s set m unnamed))
