-- Rows, place by place.
use Rattle.std.proofs.Common.{◌≡◌, ◌≢◌, ℕ, ◌+◌, ◌-◌, ◌<◌, ◌≤◌, zero, suc, Bool, true, false, not, ◌||◌, ◌&&◌, ◌==◌, List, [], ◌∷◌, map, take, drop, get_or, length, refl, sym, ap, ◌∙◌, inl, inr, arith}
use Rattle.std.proofs.Math.ListN.{set}
use Rattle.std.specs.List.{list_any, range_with_len, filter}
use Rattle.std.proofs.lemmas.Bool.{cases_eq, eq-eqb, ne_eqb, or_right, cases_lt, cases_order, cond-true, cond-false, false≢true}
use Rattle.std.proofs.lemmas.List.{get_or-set_same, get_or-set_other, get_or_past, take_all}
use Rattle.std.proofs.lemmas.List.Folds.{list_any_more}
use Rattle.pack_util.specs.declared.number.ChunkNo.{ChunkNo}
use Rattle.std.specs.declared.cmp.Ordering.TheVariants.{Less, Equal, Greater}
use Rattle.std.specs.Ordering.{ordering_then, nat_cmp}
use Rattle.std.specs.Cmp.{nat_cmp_is}
use Rattle.std.specs.Cmp.Lexicographic.{slice_cmp}
use Rattle.bit_rows.specs.Places.{NoneTrue, IsNext}
use Rattle.chunk_graph.specs.Chunks.{State, chunk_at, is_open, is_in, has}
use Rattle.split_plan.specs.declared.rule.Rule.{Rule}
use Rattle.split_plan.specs.Shares.{is_reached, is_taken, stands_in_entry, is_full, may_share}
use Rattle.split_plan.specs.inner.Rows.{places_from, reached_in}

pub or_false : (a : Bool) → a ≡ (a || false)
or_false true = refl
or_false false = refl

pub or_assoc : (a b c : Bool) → ((a || b) || c) ≡ (a || (b || c))
or_assoc true b c = refl
or_assoc false b c = refl

pub set_place : (row : List Bool) (n i : ℕ) → n < length row → is_in (set row n true) i ≡ (is_in row i || (n == i))
set_place row n i lt = elim (cases_eq i n) [
  | inl e ↦ ap (λ k. is_in (set row n true) k) e ∙ get_or-set_same row n true false lt ∙ sym (or_right (is_in row i) (n == i) (eq-eqb n i (sym e)))
  | inr ne ↦ get_or-set_other row n i true false ne ∙ or_false (is_in row i) ∙ ap (λ b. is_in row i || b) (sym (ne_eqb n i (λ e. ne (sym e))))
]

-- a loop that marks the chunks of a list
pub mark_more : (old row : List Bool) (list : List ChunkNo) (k i : ℕ) (d : ChunkNo) → k < length list → (get_or list k d).0 < length row
    → is_in row i ≡ (is_in old i || has i (take k list)) → is_in (set row (get_or list k d).0 true) i ≡ (is_in old i || has i (take (k + 1) list))
mark_more old row list k i d lt within h =
    set_place row (get_or list k d).0 i within ∙ ap (λ b. b || ((get_or list k d).0 == i)) h ∙ or_assoc (is_in old i) (has i (take k list)) ((get_or list k d).0 == i)
    ∙ ap (λ b. is_in old i || b) (sym (list_any_more (λ c. c.0 == i) list k d lt))

-- a list that has at each place what a function gives there
pub map_by_all : {A B : Type 0} (f : A → B) (xs : List A) (ys : List B) (e : B) → length ys ≡ length xs
    → ((k : ℕ) (d : A) → k < length xs → get_or ys k e ≡ f (get_or xs k d)) → ys ≡ map f xs
map_by_all f [] [] e len h = refl
map_by_all f [] (y ∷ ys) e len h = absurd (omega arith)
map_by_all f (x ∷ xs) [] e len h = absurd (omega arith)
map_by_all f (x ∷ xs) (y ∷ ys) e len h = ap (λ z. z ∷ ys) (h zero x (omega arith)) ∙ ap (λ zs. f x ∷ zs) (map_by_all f xs ys e (omega arith) (λ k d lt. h (suc k) d (omega arith)))

-- whether a chunk may share, from what was worked out of it
pub may_share_from : (rule : Rule) (forced : Bool) (s : State) (k : ℕ) (o e f v : Bool) → v ≡ (o && (is_taken rule.select e && (forced || not f)))
    → o ≡ is_open (chunk_at s k) → e ≡ stands_in_entry s k → f ≡ is_full rule s k → v ≡ may_share rule forced s k
may_share_from rule forced s k o e f v hv ho he hf =
    hv ∙ ap (λ b. b && (is_taken rule.select e && (forced || not f))) ho
    ∙ ap (λ b. is_open (chunk_at s k) && (is_taken rule.select b && (forced || not f))) he
    ∙ ap (λ b. is_open (chunk_at s k) && (is_taken rule.select (stands_in_entry s k) && (forced || not b))) hf

pub full_from : (rule : Rule) (s : State) (k : ℕ) (a b f : Bool) → f ≡ (a || b) → a ≡ reached_in rule.max_initial 0 s.entries s k
    → b ≡ reached_in rule.max_async s.entries (length s.groups) s k → f ≡ is_full rule s k
full_from rule s k a b f hf ha hb =
    let rest = ap (λ gs. list_any (λ g. has k g && is_reached rule.max_async (length g)) (drop s.entries gs)) (take_all (length s.groups) s.groups (omega arith)) in
    hf ∙ ap (λ x. x || b) ha ∙ ap (λ x. reached_in rule.max_initial 0 s.entries s k || x) (hb ∙ rest)

pub is_in-below : (row : List Bool) (i : ℕ) → is_in row i ≡ true → i < length row
is_in-below row i h = elim (cases_lt i (length row)) [ inl lt ↦ lt | inr ge ↦ absurd (false≢true (sym (get_or_past row i false ge) ∙ h)) ]

-- a filtered range begins at the first number that passes
filter_skip : (p : ℕ → Bool) (a n b : ℕ) → ((k : ℕ) → a ≤ k → k < a + b → p k ≡ false) → b ≤ n → filter p (range_with_len a n) ≡ filter p (range_with_len (a + b) (n - b))
filter_skip p a n zero none le = let e : a + 0 ≡ a = omega arith in let f : n - 0 ≡ n = omega arith in rw (e, f) refl
filter_skip p a zero (suc b) none le = absurd (omega arith)
filter_skip p a (suc n) (suc b) none le =
    let e : a + 1 + b ≡ a + suc b = omega arith in
    let f : suc n - suc b ≡ n - b = omega arith in
    cond-false (p a) _ _ (none a (omega arith) (omega arith)) ∙ filter_skip p (a + 1) n b (λ k l h. none k (omega arith) (omega arith)) (omega arith)
    ∙ ap (λ x. filter p (range_with_len x (n - b))) e ∙ ap (λ x. filter p (range_with_len (a + suc b) x)) (sym f)

pub from_none : (row : List Bool) (at : ℕ) → NoneTrue row at (length row) → places_from at row ≡ []
from_none row at none =
    let n = length row - at in
    let f : n - n ≡ 0 = omega arith in
    filter_skip (is_in row) at n n (λ k l h. none k l (omega arith)) (omega arith) ∙ ap (λ x. filter (is_in row) (range_with_len (at + n) x)) f

pub from_next : (row : List Bool) (at i : ℕ) → IsNext row at i → places_from at row ≡ i ∷ places_from (i + 1) row
from_next row at i next =
    let n = length row - at in
    let b = i - at in
    let lt = is_in-below row i next.is_true in
    let low = next.not_below in
    let e : at + b ≡ i = omega arith in
    let f : n - b ≡ suc (length row - (i + 1)) = omega arith in
    filter_skip (is_in row) at n b (λ k l h. next.least k l (omega arith)) (omega arith)
    ∙ ap (λ x. filter (is_in row) (range_with_len x (n - b))) e ∙ ap (λ x. filter (is_in row) (range_with_len i x)) f
    ∙ cond-true (is_in row i) _ _ next.is_true

-- two lists of numbers, compared

pub cmp_same : (xs ys vs ws : List ℕ) → xs ≡ vs → ys ≡ ws → slice_cmp nat_cmp xs ys ≡ slice_cmp nat_cmp vs ws
cmp_same xs ys vs ws e f = ap (λ l. slice_cmp nat_cmp l ys) e ∙ ap (λ l. slice_cmp nat_cmp vs l) f

pub cmp_equal : (x y : ℕ) (xs ys : List ℕ) → x ≡ y → slice_cmp nat_cmp (x ∷ xs) (y ∷ ys) ≡ slice_cmp nat_cmp xs ys
cmp_equal x y xs ys e = ap (λ o. ordering_then o (slice_cmp nat_cmp xs ys)) (sym (nat_cmp_is x y Equal e))

pub cmp_differ : (x y : ℕ) (xs ys : List ℕ) → x ≢ y → nat_cmp x y ≡ slice_cmp nat_cmp (x ∷ xs) (y ∷ ys)
cmp_differ x y xs ys ne = elim (cases_order x y) [
  | inl e ↦ absurd (ne e)
  | inr (inl lt) ↦ let e = nat_cmp_is x y Less lt in sym e ∙ ap (λ o. ordering_then o (slice_cmp nat_cmp xs ys)) e
  | inr (inr gt) ↦ let e = nat_cmp_is x y Greater gt in sym e ∙ ap (λ o. ordering_then o (slice_cmp nat_cmp xs ys)) e
]
