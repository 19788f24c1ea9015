-- Each split lowers the number of pairs of a module and an open chunk that holds it.
use Rattle.std.proofs.Common.{◌≡◌, ◌≢◌, ℕ, ◌+◌, ◌<◌, ◌≤◌, ◌&&◌, ◌==◌, zero, suc, Bool, true, false, not, cond, nat_lt, Option, None, Some, List, [], ◌∷◌, map, get_or, length, if◌then◌else◌, refl, sym, ap, ◌∙◌, inl, inr, arith}
use Rattle.std.specs.List.{range_with_len, list_any, sum_by}
use Rattle.std.proofs.lemmas.Bool.{cases_eq, cases_lt, cases_Bool, false≢true, and_parts, and_from, or_cases, ne_eqb, cond-true, cond-false, lt-ltb, le-ltb}
use Rattle.std.proofs.lemmas.List.{get_or-set_same, get_or-set_other, get_or_past, get_or_append_left, length-append}
use Rattle.std.proofs.lemmas.List.FromFn.{get_or-map-range_with_len, length-map-range_with_len}
use Rattle.std.proofs.lemmas.List.Sums.{sum_by-cons}
use Rattle.bit_rows.specs.Places.{minus}
use Rattle.chunk_graph.specs.declared.chunk.Chunk.{Chunk}
use Rattle.chunk_graph.specs.Chunks.{State, IsShaped, no_chunk, chunk_at, is_in, is_open, count, holds}
use Rattle.chunk_graph.specs.Moves.{moved_one, with_moved, with_closed, with_new, new_chunk}
use Rattle.split_plan.specs.declared.candidate.Candidate.{Candidate}
use Rattle.split_plan.specs.declared.rule.Rule.{Rule}
use Rattle.split_plan.specs.Plan.{Plan, IsPlan, rule_at}
use Rattle.split_plan.specs.Candidates.{IsCandidate, Arises, modules_for, goes, lies_in}
use Rattle.split_plan.specs.Shares.{sharers, meets, may_share, is_shared}
use Rattle.split_plan.specs.Step.{pairs, with_joined, with_taken, after_at, after_split, reused_of}
use Rattle.split_plan.proofs.Found.{chunks_len}
use Rattle.split_plan.proofs.Keeping.{AreEven, spent_chunks, reused_is}
use Rattle.split_plan.proofs.Places.{is_in-below}
use Rattle.split_plan.proofs.Sets.{lies_from, sharer_holds}

-- ---- counts and sums

abbrev weight : Chunk → ℕ
weight c = if is_open c then count c.mods else 0

count_minus : (xs ys : List Bool) → length xs ≡ length ys → count (minus xs ys) ≤ count xs
count_minus [] ys len = omega arith
count_minus (x ∷ xs) [] len = absurd (omega arith)
count_minus (true ∷ xs) (true ∷ ys) len = omega (arith, sum_by-cons (λ b. cond b 1 0) false (minus xs ys), sum_by-cons (λ b. cond b 1 0) true xs, count_minus xs ys (omega arith))
count_minus (true ∷ xs) (false ∷ ys) len = omega (arith, sum_by-cons (λ b. cond b 1 0) true (minus xs ys), sum_by-cons (λ b. cond b 1 0) true xs, count_minus xs ys (omega arith))
count_minus (false ∷ xs) (true ∷ ys) len = omega (arith, sum_by-cons (λ b. cond b 1 0) false (minus xs ys), sum_by-cons (λ b. cond b 1 0) false xs, count_minus xs ys (omega arith))
count_minus (false ∷ xs) (false ∷ ys) len = omega (arith, sum_by-cons (λ b. cond b 1 0) false (minus xs ys), sum_by-cons (λ b. cond b 1 0) false xs, count_minus xs ys (omega arith))

count_less : (xs ys : List Bool) (m : ℕ) → length xs ≡ length ys → is_in xs m ≡ true → is_in ys m ≡ true → count (minus xs ys) < count xs
count_less [] ys m len h g = absurd (false≢true h)
count_less (x ∷ xs) [] m len h g = absurd (omega arith)
count_less (true ∷ xs) (true ∷ ys) zero len h g = omega (arith, sum_by-cons (λ b. cond b 1 0) false (minus xs ys), sum_by-cons (λ b. cond b 1 0) true xs, count_minus xs ys (omega arith))
count_less (true ∷ xs) (false ∷ ys) zero len h g = absurd (false≢true g)
count_less (false ∷ xs) (y ∷ ys) zero len h g = absurd (false≢true h)
count_less (true ∷ xs) (true ∷ ys) (suc m) len h g = omega (arith, sum_by-cons (λ b. cond b 1 0) false (minus xs ys), sum_by-cons (λ b. cond b 1 0) true xs, count_less xs ys m (omega arith) h g)
count_less (true ∷ xs) (false ∷ ys) (suc m) len h g = omega (arith, sum_by-cons (λ b. cond b 1 0) true (minus xs ys), sum_by-cons (λ b. cond b 1 0) true xs, count_less xs ys m (omega arith) h g)
count_less (false ∷ xs) (true ∷ ys) (suc m) len h g = omega (arith, sum_by-cons (λ b. cond b 1 0) false (minus xs ys), sum_by-cons (λ b. cond b 1 0) false xs, count_less xs ys m (omega arith) h g)
count_less (false ∷ xs) (false ∷ ys) (suc m) len h g = omega (arith, sum_by-cons (λ b. cond b 1 0) false (minus xs ys), sum_by-cons (λ b. cond b 1 0) false xs, count_less xs ys m (omega arith) h g)

count_at : (xs : List Bool) (m : ℕ) → is_in xs m ≡ true → 0 < count xs
count_at [] m h = absurd (false≢true h)
count_at (true ∷ xs) m h = omega (arith, sum_by-cons (λ b. cond b 1 0) true xs)
count_at (false ∷ xs) zero h = absurd (false≢true h)
count_at (false ∷ xs) (suc m) h = omega (arith, sum_by-cons (λ b. cond b 1 0) false xs, count_at xs m h)

count_some : (xs : List Bool) → 0 < count xs → (i : ℕ) × (is_in xs i ≡ true)
count_some [] h = absurd (omega arith)
count_some (true ∷ xs) h = (0, refl)
count_some (false ∷ xs) h = let q = count_some xs (omega (arith, sum_by-cons (λ b. cond b 1 0) false xs)) in (suc q.0, q.1)

sum_le : (xs ys : List Chunk) → ((i : ℕ) → weight (get_or ys i no_chunk) ≤ weight (get_or xs i no_chunk)) → sum_by weight ys ≤ sum_by weight xs
sum_le [] [] h = omega arith
sum_le (x ∷ xs) [] h = omega arith
sum_le [] (y ∷ ys) h = omega (arith, sum_by-cons weight y ys, h 0, sum_le [] ys (λ i. h (suc i)))
sum_le (x ∷ xs) (y ∷ ys) h = omega (arith, sum_by-cons weight y ys, sum_by-cons weight x xs, h 0, sum_le xs ys (λ i. h (suc i)))

sum_less : (xs ys : List Chunk) (i : ℕ) → ((k : ℕ) → weight (get_or ys k no_chunk) ≤ weight (get_or xs k no_chunk)) → weight (get_or ys i no_chunk) < weight (get_or xs i no_chunk) → sum_by weight ys < sum_by weight xs
sum_less [] ys i h lt = absurd (omega (arith, lt))
sum_less (x ∷ xs) [] zero h lt = omega (arith, sum_by-cons weight x xs, lt)
sum_less (x ∷ xs) [] (suc i) h lt = omega (arith, sum_by-cons weight x xs, sum_less xs [] i (λ k. h (suc k)) lt)
sum_less (x ∷ xs) (y ∷ ys) zero h lt = omega (arith, sum_by-cons weight y ys, sum_by-cons weight x xs, lt, sum_le xs ys (λ k. h (suc k)))
sum_less (x ∷ xs) (y ∷ ys) (suc i) h lt = omega (arith, sum_by-cons weight y ys, sum_by-cons weight x xs, h 0, sum_less xs ys i (λ k. h (suc k)) lt)

-- ---- the chunks after a split

closed_weight : (c : Chunk) → weight (record c { closed = true }) ≡ 0
closed_weight c = elim (cases_Bool c.gone) [ inl t ↦ ap (λ g. cond (not g && false) (count c.mods) 0) t | inr f ↦ ap (λ g. cond (not g && false) (count c.mods) 0) f ]

moved_le : (modules : List Bool) (leaves : Bool) (c : Chunk) → length c.mods ≡ length modules → weight (moved_one modules false leaves c) ≤ weight c
moved_le modules false c len = omega arith
moved_le modules true c len = elim (cases_Bool (is_open c)) [
  | inl t ↦ omega (arith, cond-true (is_open c) (count (minus c.mods modules)) 0 t, cond-true (is_open c) (count c.mods) 0 t, count_minus c.mods modules len)
  | inr f ↦ omega (arith, cond-false (is_open c) (count (minus c.mods modules)) 0 f, cond-false (is_open c) (count c.mods) 0 f)
]

-- what stands at a number after the split, where it takes place in a state whose chunks with places are those of s
chunk_taken : (p : Plan) (s : State) (x : Candidate) (n i : ℕ) → n < length s.chunks → i ≢ n
    → weight (chunk_at (with_taken p x n s) i) ≡ weight (if nat_lt i (length s.chunks) then moved_one x.modules false (is_in x.chunks i) (chunk_at s i) else no_chunk)
chunk_taken p s x n i lt ne =
    let one : ℕ → Chunk = λ j. moved_one x.modules (j == n) (is_in x.chunks j) (chunk_at s j) in
    let moved = with_joined x.chunks n (with_moved x.modules x.chunks n s) in
    let size = length-map-range_with_len one 0 (length s.chunks) in
    ap (λ chunks. weight (get_or chunks i no_chunk)) (spent_chunks (rule_at p x.cache_group).name x.cache_group (with_closed n moved))
    ∙ ap weight (get_or-set_other moved.chunks n i _ no_chunk ne)
    ∙ elim (cases_lt i (length s.chunks)) [
      | inl l ↦ ap weight (get_or-map-range_with_len one 0 (length s.chunks) i i no_chunk l (omega arith) ∙ ap (λ b. moved_one x.modules b (is_in x.chunks i) (chunk_at s i)) (ne_eqb i n ne))
          ∙ sym (ap weight (cond-true (nat_lt i (length s.chunks)) _ no_chunk (lt-ltb i (length s.chunks) l)))
      | inr ge ↦ ap weight (get_or_past (map one (range_with_len 0 (length s.chunks))) i no_chunk (omega arith)) ∙ sym (ap weight (cond-false (nat_lt i (length s.chunks)) _ no_chunk (le-ltb i (length s.chunks) ge)))
    ]

chunk_closed : (p : Plan) (s : State) (x : Candidate) (n : ℕ) → n < length s.chunks → weight (chunk_at (with_taken p x n s) n) ≡ 0
chunk_closed p s x n lt =
    let moved = with_joined x.chunks n (with_moved x.modules x.chunks n s) in
    let size = length-map-range_with_len (λ j. moved_one x.modules (j == n) (is_in x.chunks j) (chunk_at s j)) 0 (length s.chunks) in
    ap (λ chunks. weight (get_or chunks n no_chunk)) (spent_chunks (rule_at p x.cache_group).name x.cache_group (with_closed n moved))
    ∙ ap weight (get_or-set_same moved.chunks n _ no_chunk (omega arith)) ∙ closed_weight (chunk_at moved n)

-- a chunk of the set that is open and holds one of the modules
pub record Lends (s : State) (x : Candidate) : Type 0 where
  pub chunk : ℕ
  pub «module» : ℕ
  pub among : is_in x.chunks chunk ≡ true
  pub is_open : is_open (chunk_at s chunk) ≡ true
  pub holds : holds s chunk «module» ≡ true
  pub moved : is_in x.modules «module» ≡ true

-- the chunks that matter are those of s: t is s, or s with one chunk more
falls_from : (p : Plan) (s t : State) (x : Candidate) (n : ℕ) → AreEven s x.modules → n < length t.chunks → length s.chunks ≤ length t.chunks
    → ((i : ℕ) → i ≢ n → i < length t.chunks → (i < length s.chunks) × (chunk_at t i ≡ chunk_at s i)) → Lends s x → (is_in x.chunks n ≡ true → chunk_at t n ≡ chunk_at s n)
    → pairs (with_taken p x n t) < pairs s
falls_from p s t x n even lt size same lends own =
    let u = with_taken p x n t in
    let d = lends.chunk in
    let m = lends.«module» in
    let inside : d < length s.chunks = elim (cases_lt d (length s.chunks)) [
      | inl l ↦ l
      | inr ge ↦ absurd (false≢true (sym (ap (λ c. is_in c.mods m) (get_or_past s.chunks d no_chunk ge)) ∙ lends.holds))
    ] in
    let le : (i : ℕ) → weight (chunk_at u i) ≤ weight (chunk_at s i) = λ i. elim (cases_eq i n) [
      | inl e ↦ let z : weight (chunk_at u i) ≡ 0 = ap (λ j. weight (chunk_at u j)) e ∙ chunk_closed p t x n lt in omega (arith, z)
      | inr ne ↦ elim (cases_lt i (length t.chunks)) [
        | inl l ↦
            let q = same i ne l in
            let z : weight (chunk_at u i) ≡ weight (moved_one x.modules false (is_in x.chunks i) (chunk_at s i)) =
            chunk_taken p t x n i lt ne ∙ ap weight (cond-true (nat_lt i (length t.chunks)) _ no_chunk (lt-ltb i (length t.chunks) l)) ∙ ap (λ c. weight (moved_one x.modules false (is_in x.chunks i) c)) q.1 in
            omega (arith, z, moved_le x.modules (is_in x.chunks i) (chunk_at s i) (even i q.0))
        | inr ge ↦
            let z : weight (chunk_at u i) ≡ 0 = chunk_taken p t x n i lt ne ∙ ap weight (cond-false (nat_lt i (length t.chunks)) _ no_chunk (le-ltb i (length t.chunks) ge)) in omega (arith, z)
      ]
    ] in
    let full : weight (chunk_at s d) ≡ count (chunk_at s d).mods = cond-true (is_open (chunk_at s d)) _ 0 lends.is_open in
    let less : weight (chunk_at u d) < weight (chunk_at s d) = elim (cases_eq d n) [
      | inl e ↦ let z : weight (chunk_at u d) ≡ 0 = ap (λ j. weight (chunk_at u j)) e ∙ chunk_closed p t x n lt in omega (arith, z, full, count_at (chunk_at s d).mods m lends.holds)
      | inr ne ↦
          let l : d < length t.chunks = omega arith in
          let z : weight (chunk_at u d) ≡ count (minus (chunk_at s d).mods x.modules) =
          chunk_taken p t x n d lt ne ∙ ap weight (cond-true (nat_lt d (length t.chunks)) _ no_chunk (lt-ltb d (length t.chunks) l)) ∙ ap (λ c. weight (moved_one x.modules false (is_in x.chunks d) c)) (same d ne l).1
          ∙ ap (λ b. weight (moved_one x.modules false b (chunk_at s d))) lends.among ∙ cond-true (is_open (chunk_at s d)) _ 0 lends.is_open in
          omega (arith, z, full, count_less (chunk_at s d).mods x.modules m (even d inside) lends.holds lends.moved)
    ] in
    sum_less s.chunks u.chunks d le less

-- ---- each candidate lends

any_range_some : (p : ℕ → Bool) (a n : ℕ) → list_any p (range_with_len a n) ≡ true → (k : ℕ) × (a ≤ k) × (k < a + n) × (p k ≡ true)
any_range_some p a zero h = absurd (false≢true h)
any_range_some p a (suc n) h = elim (or_cases (p a) (list_any p (range_with_len (a + 1) n)) h) [
  | inl t ↦ (a, omega arith, omega arith, t)
  | inr r ↦ let q = any_range_some p (a + 1) n r in (q.0, let l = q.1 in omega arith, let l = q.2 in omega arith, q.3)
]

pub share_open : (rule : Rule) (forced : Bool) (s : State) (i : ℕ) → may_share rule forced s i ≡ true → is_open (chunk_at s i) ≡ true
share_open rule forced s i h = (and_parts (is_open (chunk_at s i)) _ h).0

goes_in : (rule : Rule) (forced : Bool) (s : State) (width m : ℕ) (set : List Bool) → m < width → goes rule.name rule forced s set m ≡ true → is_in (modules_for rule forced s width set) m ≡ true
goes_in rule forced s width m set lt h = get_or-map-range_with_len (goes rule.name rule forced s set) 0 width m m false lt (omega arith) ∙ h

-- a chunk of the set shares a module that goes with the set
pub record Shares (rule : Rule) (forced : Bool) (s : State) (width : ℕ) (name : Option (List ℕ)) (set : List Bool) (d : ℕ) : Type 0 where
  pub «module» : ℕ
  pub within : «module» < width
  pub shared : is_in (sharers rule forced s «module») d ≡ true
  pub goes : goes name rule forced s set «module» ≡ true

pub shares_one : (name : Option (List ℕ)) (rule : Rule) (k : ℕ) (forced : Bool) (s : State) (width : ℕ) (set : List Bool) (d : ℕ) → Arises name rule k forced s width set → is_in set d ≡ true → Shares rule forced s width name set d
shares_one None rule k forced s width set d (m, lt, tested, same) there = record {
  «module» = m;
  within = lt;
  shared = ap (λ row. is_in row d) same ∙ there;
  goes = and_from (meets rule m) (lies_in set (sharers rule forced s m)) tested (lies_from set (sharers rule forced s m) (λ i h. ap (λ row. is_in row i) same ∙ h));
}
shares_one (Some name) rule k forced s width set d (spent, same) there =
    let f : ℕ → Bool = λ i. list_any (λ m. is_shared rule forced s m && is_in (sharers rule forced s m) i) (range_with_len 0 width) in
    let size = length-map-range_with_len f 0 (length s.chunks) in
    let row : is_in (map f (range_with_len 0 (length s.chunks))) d ≡ true = ap (λ r. is_in r d) same ∙ there in
    let lt = is_in-below (map f (range_with_len 0 (length s.chunks))) d row in
    let q = any_range_some (λ m. is_shared rule forced s m && is_in (sharers rule forced s m) d) 0 width (sym (get_or-map-range_with_len f 0 (length s.chunks) d d false (omega arith) (omega arith)) ∙ row) in
    let parts = and_parts (is_shared rule forced s q.0) _ q.3 in
    record { «module» = q.0; within = (let l = q.2 in omega arith); shared = parts.1; goes = parts.0 }

pub lends_one : (p : Plan) (s : State) (x : Candidate) → IsPlan p → IsCandidate p s x → Lends s x
lends_one p s x plan is =
    let rule = rule_at p x.cache_group in
    let some = count_some x.chunks (omega (arith, is.enough, plan.counted x.cache_group)) in
    let one = shares_one rule.name rule x.cache_group x.forced s (length p.sizes) x.chunks some.0 is.arises some.1 in
    let sharer = sharer_holds rule x.forced s one.«module» some.0 one.shared in
    record {
      chunk = some.0;
      «module» = one.«module»;
      among = some.1;
      is_open = share_open rule x.forced s some.0 sharer.0;
      holds = sharer.1;
      moved = ap (λ row. is_in row one.«module») is.modules ∙ goes_in rule x.forced s (length p.sizes) one.«module» x.chunks one.within one.goes;
    }

falls_after : (p : Plan) (s : State) (x : Candidate) (o : Option ℕ) → AreEven s x.modules → ((j : ℕ) → is_in x.chunks j ≡ true → j < length s.chunks) → ((n : ℕ) → o ≡ Some n → n < length s.chunks) → Lends s x
    → pairs (after_at p s x o) < pairs s
falls_after p s x (Some n) even within old lends = falls_from p s s x n even (old n refl) (omega arith) (λ i ne l. (l, refl)) lends (λ t. refl)
falls_after p s x None even within old lends =
    let name = (rule_at p x.cache_group).name in
    let size = length-append s.chunks (new_chunk name s.width ∷ []) in
    falls_from p s (with_new name s) x (length s.chunks) even (omega arith) (omega arith)
    (λ i ne l. let lt : i < length s.chunks = omega arith in (lt, get_or_append_left s.chunks (new_chunk name s.width ∷ []) no_chunk i lt)) lends
    (λ t. absurd (omega (arith, within (length s.chunks) t)))

pub split-falls : (p : Plan) (s : State) (x : Candidate) → IsPlan p → IsShaped s → s.width ≡ length p.sizes → IsCandidate p s x → pairs (after_split p s x) < pairs s
split-falls p s x plan shaped width is =
    let rule = rule_at p x.cache_group in
    let len : length x.modules ≡ s.width = ap length is.modules ∙ length-map-range_with_len (goes rule.name rule x.forced s x.chunks) 0 (length p.sizes) ∙ sym width in
    let chunks = chunks_len rule.name rule x.cache_group x.forced s (length p.sizes) x.chunks is.arises in
    falls_after p s x (reused_of p s x) (λ i lt. shaped.even i lt ∙ sym len) (λ j t. omega (arith, chunks, is_in-below x.chunks j t))
    (λ n e. reused_is rule.name rule.reuse s x.chunks x.modules n e) (lends_one p s x plan is)
