-- One split, and the lists that splits make.
use Rattle.std.proofs.Common.{◌≡◌, ℕ, ◌+◌, ◌-◌, ◌<◌, ◌≤◌, ◌⊎◌, ◌==◌, zero, suc, Bool, true, false, not, Option, None, Some, List, [], ◌∷◌, ◌++◌, map, get_or, length, replicate, refl, sym, ap, subst, ◌∙◌, inl, inr, arith}
use Rattle.std.specs.List.{range_with_len}
use Rattle.std.specs.declared.cmp.Ordering.{Ordering}
use Rattle.std.specs.declared.cmp.Ordering.TheVariants.{Less, Equal, Greater}
use Rattle.std.proofs.lemmas.Bool.{cases_lt, and_parts, not-true}
use Rattle.std.proofs.lemmas.List.{get_or_past, get_or_append_left, get_or-append_right, get_or-replicate, get_or_push, length-append, length-replicate, get_or_default}
use Rattle.std.proofs.lemmas.List.Elements.{All-get_or}
use Rattle.std.proofs.lemmas.List.FromFn.{get_or-map-range_with_len, length-map-range_with_len}
use Rattle.pack_util.specs.declared.number.ChunkNo.{ChunkNo}
use Rattle.chunk_graph.specs.declared.chunk.Chunk.{Chunk}
use Rattle.chunk_graph.specs.declared.split.Split.{Split}
use Rattle.chunk_graph.specs.Chunks.{State, no_chunk, chunk_at, is_in}
use Rattle.chunk_graph.specs.Moves.{moved_one, with_moved, with_new, new_chunk}
use Rattle.split_plan.specs.declared.candidate.Candidate.{Candidate}
use Rattle.split_plan.specs.Plan.{Plan, rule_at}
use Rattle.split_plan.specs.Candidates.{IsCandidate, Lists, goes}
use Rattle.split_plan.specs.Order.{order, IsGreatest}
use Rattle.split_plan.specs.Step.{AreSteps, IsBest, HasNone, made_of, reused_of, split_of, after_at, after_split, with_name_spent}
use Rattle.split_plan.proofs.Found.{same_from_order}
use Rattle.split_plan.proofs.Falling.{shares_one, share_open}
use Rattle.split_plan.proofs.Keeping.{reused_is, reusable_at}
use Rattle.split_plan.proofs.Sets.{sharer_holds}
use Rattle.split_chunks.specs.Ends.{before_taking, given}

-- ---- modules moved

gone_moved : (modules : List Bool) (is_to leaves : Bool) (c : Chunk) → (moved_one modules is_to leaves c).gone ≡ c.gone
gone_moved modules true leaves c = refl
gone_moved modules false true c = refl
gone_moved modules false false c = refl

pub moved-len : (s : State) (modules from : List Bool) (n : ℕ) → length (with_moved modules from n s).chunks ≡ length s.chunks
moved-len s modules from n = length-map-range_with_len (λ i. moved_one modules (i == n) (is_in from i) (chunk_at s i)) 0 (length s.chunks)

pub moved-gone : (s : State) (modules from : List Bool) (n i : ℕ) → i < length s.chunks → (chunk_at (with_moved modules from n s) i).gone ≡ (chunk_at s i).gone
moved-gone s modules from n i lt =
    ap (λ c. c.gone) (get_or-map-range_with_len (λ j. moved_one modules (j == n) (is_in from j) (chunk_at s j)) 0 (length s.chunks) i i no_chunk lt (omega arith))
    ∙ gone_moved modules (i == n) (is_in from i) (chunk_at s i)

in_grown : (row : List Bool) (d i : ℕ) → is_in (row ++ replicate d false) i ≡ is_in row i
in_grown row d i = elim (cases_lt i (length row)) [
  | inl lt ↦ get_or_append_left row (replicate d false) false i lt
  | inr ge ↦ get_or-append_right row (replicate d false) (length row) i false refl ge
      ∙ elim (cases_lt (i - length row) d) [
        | inl l ↦ get_or-replicate d (i - length row) false false l
        | inr g ↦ get_or_past (replicate d false) (i - length row) false (omega (arith, length-replicate d false))
      ]
      ∙ sym (get_or_past row i false ge)
]

map_alike : (f g : ℕ → Chunk) (a n : ℕ) → ((k : ℕ) → f k ≡ g k) → map f (range_with_len a n) ≡ map g (range_with_len a n)
map_alike f g a zero h = refl
map_alike f g a (suc n) h = ap (λ c. c ∷ map f (range_with_len (a + 1) n)) (h a) ∙ ap (λ cs. g a ∷ cs) (map_alike f g (a + 1) n h)

pub moved-grown : (s : State) (modules row from : List Bool) (d n : ℕ) → from ≡ row ++ replicate d false → with_moved modules from n s ≡ with_moved modules row n s
moved-grown s modules row from d n is =
    let put : List Chunk → State = λ chunks. record s { chunks = chunks } in
    ap (λ f. with_moved modules f n s) is
    ∙ ap put (map_alike _ _ 0 (length s.chunks) (λ i. ap (λ b. moved_one modules (i == n) b (chunk_at s i)) (in_grown row d i)))

-- ---- the chunk that takes the modules

pub before-width : (name : Option (List ℕ)) (s : State) (o : Option ℕ) → (before_taking name s o).width ≡ s.width
before-width name s None = refl
before-width name s (Some n) = refl

pub before-len : (name : Option (List ℕ)) (s : State) (o : Option ℕ) → length s.chunks ≤ length (before_taking name s o).chunks
before-len name s None = omega (arith, length-append s.chunks (new_chunk name s.width ∷ []))
before-len name s (Some n) = omega arith

pub made-within : (name : Option (List ℕ)) (s : State) (o : Option ℕ) → ((n : ℕ) → o ≡ Some n → n < length s.chunks) → (made_of s o).0 < length (before_taking name s o).chunks
made-within name s None old = omega (arith, length-append s.chunks (new_chunk name s.width ∷ []))
made-within name s (Some n) old = old n refl

pub made-there : (name : Option (List ℕ)) (s : State) (o : Option ℕ) → ((n : ℕ) → o ≡ Some n → (chunk_at s n).gone ≡ false) → (chunk_at (before_taking name s o) (made_of s o).0).gone ≡ false
made-there name s None old = ap (λ c. c.gone) (get_or_push s.chunks (new_chunk name s.width) no_chunk (length s.chunks) refl)
made-there name s (Some n) old = old n refl

-- a chunk of a candidate isn't gone
pub candidate-there : (p : Plan) (s : State) (x : Candidate) (i : ℕ) → IsCandidate p s x → is_in x.chunks i ≡ true → (chunk_at s i).gone ≡ false
candidate-there p s x i is there =
    let rule = rule_at p x.cache_group in
    let one = shares_one rule.name rule x.cache_group x.forced s (length p.sizes) x.chunks i is.arises there in
    let open' = share_open rule x.forced s i (sharer_holds rule x.forced s one.«module» i one.shared).0 in
    not-true (chunk_at s i).gone (and_parts (not (chunk_at s i).gone) (not (chunk_at s i).closed) open').0

pub reused-there : (p : Plan) (s : State) (x : Candidate) (n : ℕ) → IsCandidate p s x → reused_of p s x ≡ Some n → (n < length s.chunks) × ((chunk_at s n).gone ≡ false)
reused-there p s x n is e =
    let rule = rule_at p x.cache_group in (
      reused_is rule.name rule.reuse s x.chunks x.modules n e,
      candidate-there p s x n is (and_parts (is_in x.chunks n) _ (reusable_at rule.name rule.reuse s x.chunks x.modules n e)).0,
    )

pub after-given : (p : Plan) (s : State) (x : Candidate) (o : Option ℕ) (n : ChunkNo) → n ≡ made_of s o
    → given (rule_at p x.cache_group).name x.cache_group x.chunks x.modules n.0 (before_taking (rule_at p x.cache_group).name s o) ≡ after_at p s x o
after-given p s x None n e = ap (λ c. given (rule_at p x.cache_group).name x.cache_group x.chunks x.modules c.0 (with_new (rule_at p x.cache_group).name s)) e
after-given p s x (Some k) n e = ap (λ c. given (rule_at p x.cache_group).name x.cache_group x.chunks x.modules c.0 s) e

pub modules-len : (p : Plan) (s : State) (x : Candidate) → IsCandidate p s x → s.width ≡ length p.sizes → length x.modules ≡ s.width
modules-len p s x is width =
    let rule = rule_at p x.cache_group in
    ap length is.modules ∙ length-map-range_with_len (goes rule.name rule x.forced s x.chunks) 0 (length p.sizes) ∙ sym width

spent_width : (name : Option (List ℕ)) (k : ℕ) (s : State) → (with_name_spent name k s).width ≡ s.width
spent_width None k s = refl
spent_width (Some name) k s = refl

pub width-after : (p : Plan) (s : State) (x : Candidate) (o : Option ℕ) → (after_at p s x o).width ≡ s.width
width-after p s x None = spent_width (rule_at p x.cache_group).name x.cache_group _
width-after p s x (Some n) = spent_width (rule_at p x.cache_group).name x.cache_group _

-- ---- lists of splits

pub steps-more : (p : Plan) (s t u : State) (ys : List Split) (x : Candidate) (y : Split) → AreSteps p s ys t → IsBest p t x → y ≡ split_of p t x → u ≡ after_split p t x → AreSteps p s (ys ++ y ∷ []) u
steps-more p s t u [] x y e best is next =
    (x, (let P : State → Type 0 = λ r. IsBest p r x in subst P e best), is ∙ ap (λ r. split_of p r x) e, next ∙ ap (λ r. after_split p r x) e)
steps-more p s t u (z ∷ ys) x y (w, b, i, rest) best is next = (w, b, i, steps-more p (after_split p s w) t u ys x y rest best is next)

cases_order : (o : Ordering) → (o ≡ Less) ⊎ ((o ≡ Equal) ⊎ (o ≡ Greater))
cases_order Less = inl refl
cases_order Equal = inr (inl refl)
cases_order Greater = inr (inr refl)

pub best-from : (p : Plan) (s : State) (xs : List Candidate) (place : ℕ) (x : Candidate) → Lists (IsCandidate p s) xs → IsGreatest p xs place → x ≡ get_or xs place x → IsBest p s x
best-from p s xs place x lists greatest read =
    let P : Candidate → Type 0 = λ c. IsCandidate p s c in
    let own : IsCandidate p s x = subst P (sym read) (All-get_or P xs place x greatest.within lists.each) in
    record {
      there = own;
      greatest = λ y is.
          let w = lists.whole y is in
          elim (cases_order (order p x y)) [
            | inl less ↦ absurd (greatest.greatest w.0 y w.1 (ap (λ c. order p c (get_or xs w.0 y)) (get_or_default xs place y x greatest.within ∙ sym read) ∙ ap (order p x) w.2 ∙ less))
            | inr (inl same) ↦ inl (sym (same_from_order p s x y own is same))
            | inr (inr more) ↦ inr more
          ];
    }

pub none-from : (p : Plan) (s : State) (xs : List Candidate) → Lists (IsCandidate p s) xs → xs ≡ [] → HasNone p s
none-from p s xs lists e x is = let w = lists.whole x is in absurd (omega (arith, w.1, ap length e))
