-- What splits keep: each closes one more chunk, so there are no more of them than numbers of chunks.
use Rattle.std.proofs.Common.{◌≡◌, ℕ, ◌+◌, ◌<◌, ◌≤◌, ◌==◌, Bool, true, false, cond, not, Option, None, Some, List, [], ◌∷◌, map, length, get_or, refl, sym, ap, ◌∙◌, arith}
use Rattle.std.specs.List.{AllByRecursion, count_by, range_with_len}
use Rattle.std.proofs.lemmas.Bool.{and_parts, not-true}
use Rattle.std.proofs.lemmas.List.{length-map, length-append, get_or_push, get_or-map}
use Rattle.std.proofs.lemmas.List.FromFn.{fill_by_all, get_or-map-range_with_len}
use Rattle.std.proofs.lemmas.List.Sums.{sum_by-cons, sum_by-set, sum_by_push, count_by-le-length}
use Rattle.chunk_graph.specs.declared.chunk.Chunk.{Chunk}
use Rattle.chunk_graph.specs.declared.split.Split.{Split}
use Rattle.chunk_graph.specs.Chunks.{State, no_chunk, chunk_at, is_in, is_open}
use Rattle.chunk_graph.specs.Moves.{moved_one, with_moved, with_closed, with_new, new_chunk}
use Rattle.split_plan.specs.declared.candidate.Candidate.{Candidate}
use Rattle.split_plan.specs.Candidates.{IsCandidate}
use Rattle.split_plan.specs.Plan.{Plan, rule_at}
use Rattle.split_plan.specs.Step.{AreSteps, after_at, after_split, reused_of, with_joined, with_name_spent, with_taken}
use Rattle.split_plan.proofs.Falling.{shares_one, share_open}
use Rattle.split_plan.proofs.Keeping.{reused_is, reusable_at, spent_chunks}
use Rattle.split_plan.proofs.Sets.{sharer_holds}
use Rattle.split_chunks.proofs.Passing.{steps_len}
use Rattle.split_chunks.proofs.Takes.{moved-len, width-after}

abbrev closed : List Chunk → ℕ
closed chunks = count_by (λ c. c.closed) chunks

-- ---- lists whose members are closed alike

counted : (chunks : List Chunk) → closed chunks ≡ count_by (λ b. b) (map (λ c. c.closed) chunks)
counted [] = refl
counted (c ∷ chunks) =
    sum_by-cons (λ d. cond {A = ℕ} d.closed 1 0) c chunks ∙ ap (λ n. cond {A = ℕ} c.closed 1 0 + n) (counted chunks)
    ∙ sym (sum_by-cons (λ b. cond {A = ℕ} b 1 0) c.closed (map (λ d. d.closed) chunks))

closed_alike : (xs ys : List Chunk) → length ys ≡ length xs → ((i : ℕ) → i < length xs → (get_or ys i no_chunk).closed ≡ (get_or xs i no_chunk).closed) → closed ys ≡ closed xs
closed_alike xs ys len each =
    let flags : List Chunk → List Bool = λ chunks. map (λ c. c.closed) chunks in
    let at : (i : ℕ) → i < length xs → get_or (flags xs) i false ≡ (get_or xs i no_chunk).closed = λ i lt. get_or-map (λ c. c.closed) xs i no_chunk false lt in
    let one : flags xs ≡ map (λ i. (get_or xs i no_chunk).closed) (range_with_len 0 (length xs)) =
    fill_by_all (λ i. (get_or xs i no_chunk).closed) (flags xs) (length xs) false (length-map xs (λ c. c.closed)) at in
    let other : flags ys ≡ map (λ i. (get_or xs i no_chunk).closed) (range_with_len 0 (length xs)) =
    fill_by_all (λ i. (get_or xs i no_chunk).closed) (flags ys) (length xs) false (length-map ys (λ c. c.closed) ∙ len)
    (λ i lt. get_or-map (λ c. c.closed) ys i no_chunk false (omega (arith, len)) ∙ each i lt) in
    counted ys ∙ ap (count_by (λ b. b)) (other ∙ sym one) ∙ sym (counted xs)

-- ---- one split

closed_moved : (modules : List Bool) (is_to leaves : Bool) (c : Chunk) → (moved_one modules is_to leaves c).closed ≡ c.closed
closed_moved modules true leaves c = refl
closed_moved modules false true c = refl
closed_moved modules false false c = refl

moved_at : (s : State) (modules from : List Bool) (n i : ℕ) → i < length s.chunks → (chunk_at (with_moved modules from n s) i).closed ≡ (chunk_at s i).closed
moved_at s modules from n i lt =
    ap (λ c. c.closed) (get_or-map-range_with_len (λ j. moved_one modules (j == n) (is_in from j) (chunk_at s j)) 0 (length s.chunks) i i no_chunk lt (omega arith))
    ∙ closed_moved modules (i == n) (is_in from i) (chunk_at s i)

taken_closes : (p : Plan) (s : State) (x : Candidate) (n : ℕ) → n < length s.chunks → (chunk_at s n).closed ≡ false → closed (with_taken p x n s).chunks ≡ closed s.chunks + 1
taken_closes p s x n within is_open =
    let moved = with_moved x.modules x.chunks n s in
    let joined = with_joined x.chunks n moved in
    let chunk = record (chunk_at moved n) { closed = true } in
    let size = moved-len s x.modules x.chunks n in
    let there : n < length moved.chunks = omega (arith, size) in
    let before : cond {A = ℕ} (chunk_at moved n).closed 1 0 ≡ 0 = ap (λ b. cond {A = ℕ} b 1 0) (moved_at s x.modules x.chunks n n within ∙ is_open) in
    let same = closed_alike s.chunks moved.chunks size (moved_at s x.modules x.chunks n) in
    let spent = ap closed (spent_chunks (rule_at p x.cache_group).name x.cache_group (with_closed n joined)) in
    omega (arith, spent, sum_by-set (λ c. cond {A = ℕ} c.closed 1 0) moved.chunks n chunk no_chunk there, before, same)

open_candidate : (p : Plan) (s : State) (x : Candidate) (i : ℕ) → IsCandidate p s x → is_in x.chunks i ≡ true → (chunk_at s i).closed ≡ false
open_candidate p s x i is there =
    let rule = rule_at p x.cache_group in
    let one = shares_one rule.name rule x.cache_group x.forced s (length p.sizes) x.chunks i is.arises there in
    let is_open = share_open rule x.forced s i (sharer_holds rule x.forced s one.«module» i one.shared).0 in
    not-true (chunk_at s i).closed (and_parts (not (chunk_at s i).gone) (not (chunk_at s i).closed) is_open).1

after_closes : (p : Plan) (s : State) (x : Candidate) (o : Option ℕ) → IsCandidate p s x → reused_of p s x ≡ o → closed (after_at p s x o).chunks ≡ closed s.chunks + 1
after_closes p s x None is e =
    let name = (rule_at p x.cache_group).name in
    let new = new_chunk name s.width in
    omega (
      arith,
      taken_closes p (with_new name s) x (length s.chunks) (omega (arith, length-append s.chunks (new ∷ []))) (ap (λ c. c.closed) (get_or_push s.chunks new no_chunk (length s.chunks) refl)),
      sum_by_push (λ c. cond {A = ℕ} c.closed 1 0) s.chunks new,
    )
after_closes p s x (Some n) is e =
    let rule = rule_at p x.cache_group in
    taken_closes p s x n (reused_is rule.name rule.reuse s x.chunks x.modules n e)
    (open_candidate p s x n is (and_parts (is_in x.chunks n) _ (reusable_at rule.name rule.reuse s x.chunks x.modules n e)).0)

spent_groups : (name : Option (List ℕ)) (k : ℕ) (s : State) → (with_name_spent name k s).groups ≡ s.groups
spent_groups None k s = refl
spent_groups (Some name) k s = refl

taken_groups : (p : Plan) (s : State) (x : Candidate) (n : ℕ) → length (with_taken p x n s).groups ≡ length s.groups
taken_groups p s x n =
    let joined = with_joined x.chunks n (with_moved x.modules x.chunks n s) in
    ap length (spent_groups (rule_at p x.cache_group).name x.cache_group (with_closed n joined)) ∙ length-map s.groups _

after_groups : (p : Plan) (s : State) (x : Candidate) (o : Option ℕ) → length (after_at p s x o).groups ≡ length s.groups
after_groups p s x None = taken_groups p (with_new (rule_at p x.cache_group).name s) x (length s.chunks)
after_groups p s x (Some n) = taken_groups p s x n

-- ---- all splits

steps_close : (p : Plan) (s t : State) (ys : List Split) → AreSteps p s ys t → closed s.chunks + length ys ≡ closed t.chunks
steps_close p s t [] e = omega (arith, ap (λ r. closed r.chunks) e)
steps_close p s t (y ∷ ys) (x, best, is, rest) =
    omega (arith, after_closes p s x (reused_of p s x) best.there refl, steps_close p (after_split p s x) t ys rest)

pub few-steps : (p : Plan) (s t : State) (ys : List Split) → AreSteps p s ys t → length ys ≤ length t.chunks
few-steps p s t ys steps = omega (arith, steps_close p s t ys steps, count_by-le-length (λ c. c.closed) t.chunks)

-- what splits leave as it was
pub record KeepsFrame (s t : State) : Type 0 where
  pub width : t.width ≡ s.width
  pub groups : length t.groups ≡ length s.groups
  pub chunks : length s.chunks ≤ length t.chunks

steps_width : (p : Plan) (s t : State) (ys : List Split) → AreSteps p s ys t → t.width ≡ s.width
steps_width p s t [] e = ap (λ r. r.width) e
steps_width p s t (y ∷ ys) (x, best, is, rest) = steps_width p (after_split p s x) t ys rest ∙ width-after p s x (reused_of p s x)

steps_groups : (p : Plan) (s t : State) (ys : List Split) → AreSteps p s ys t → length t.groups ≡ length s.groups
steps_groups p s t [] e = ap (λ r. length r.groups) e
steps_groups p s t (y ∷ ys) (x, best, is, rest) = steps_groups p (after_split p s x) t ys rest ∙ after_groups p s x (reused_of p s x)

pub kept-frame : (p : Plan) (s t : State) (ys : List Split) → AreSteps p s ys t → KeepsFrame s t
kept-frame p s t ys steps = record { width = steps_width p s t ys steps; groups = steps_groups p s t ys steps; chunks = steps_len p s t ys steps }

pub known-steps : (p : Plan) (s t : State) (ys : List Split) → AreSteps p s ys t → AllByRecursion (λ y. y.cache_group < length p.rules) ys
known-steps p s t [] e = tt
known-steps p s t (y ∷ ys) (x, best, is, rest) = (omega (arith, ap (λ z. z.cache_group) is, best.there.known), known-steps p (after_split p s x) t ys rest)
