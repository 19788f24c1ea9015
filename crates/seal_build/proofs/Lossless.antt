-- No group loses a module from the start to the final chunks.
use Rattle.std.proofs.Common.{◌≡◌, ℕ, ◌<◌, ◌≤◌, ◌==◌, Bool, true, false, cond, not, ◌&&◌, Option, List, [], ◌∷◌, filter, fold, get_or, length, refl, sym, ap, subst, ◌∙◌, inl, inr, arith}
use Rattle.std.specs.List.{range_with_len, position_or_len}
use Rattle.std.proofs.lemmas.Bool.{and_parts, cases_Bool, cases_lt, cond-true, cond-false, eq-eqb, eqb-true, false≢true, ne_eqb, or_cases, or_left, or_right}
use Rattle.std.proofs.lemmas.List.{get_or_past, get_or-map}
use Rattle.std.proofs.lemmas.List.Folds.{list_any-append}
use Rattle.std.proofs.lemmas.List.FromFn.{get_or-map-range_with_len}
use Rattle.std.proofs.lemmas.List.Sums.{sum_by_more_le}
use Rattle.bit_rows.specs.Table.{Table}
use Rattle.pack_util.specs.declared.number.ChunkNo.{ChunkNo}
use Rattle.chunk_graph.specs.declared.chunk.Chunk.{Chunk}
use Rattle.chunk_graph.specs.Chunks.{State, chunk_at, count, group_at, has, has_module, holds, is_in, no_chunk}
use Rattle.chunk_graph.specs.Moves.{are_equal, chunk_no, first_chunk, gone_if_empty, is_empty, joined, may_merge, merged, merged_chunk, merged_into, merged_list, needed, same_row, started, without_empty}
use Rattle.chunk_graph.proofs.Lists.{first_le, first_passes, get_or-map_all}
use Rattle.chunk_graph.proofs.Rows.{from_same_row}
use Rattle.chunk_groups.specs.Rows.{bit_in}
use Rattle.split_plan.proofs.Keeping.{has_some, some_has}
use Rattle.split_chunks.specs.Loads.{LosesNone}
use Rattle.seal_build.proofs.Placing.{row-within}

-- a chunk that holds a module is given out
holder_within : (s : State) (i m : ℕ) → holds s i m ≡ true → i < length s.chunks
holder_within s i m held = elim (cases_lt i (length s.chunks)) [
  | inl lt ↦ lt
  | inr past ↦ absurd (false≢true (sym (ap (λ c. is_in c.mods m) (get_or_past s.chunks i no_chunk past)) ∙ held))
]

-- ---- the start

pub started-holds : (placed : Table) (entries : ℕ) (names : List (Option (List ℕ))) (g m : ℕ) → bit_in placed.rows g m ≡ true → has_module (started placed entries names) g m ≡ true
started-holds placed entries names g m held =
    let s = started placed entries names in
    let n = length placed.rows in
    let lt : g < n = row-within placed.rows g m held in
    let list : group_at s g ≡ chunk_no g ∷ [] = get_or-map-range_with_len (λ k. chunk_no k ∷ []) 0 n g g [] lt (omega arith) in
    let chunk : chunk_at s g ≡ first_chunk placed entries names g = get_or-map-range_with_len (first_chunk placed entries names) 0 n g g no_chunk lt (omega arith) in
    has_some (λ i. holds s i m) (group_at s g) g (ap (has g) list ∙ or_left (g == g) false (eq-eqb g g refl)) (ap (λ c. is_in c.mods m) chunk ∙ held)

-- ---- equal chunks made one

joined_keeps : (i n : ℕ) (list : List ChunkNo) → has i list ≡ true → has i (joined n list) ≡ true
joined_keeps i n list h = elim (cases_Bool (has n list)) [
  | inl t ↦ ap (has i) (cond-true (has n list) _ _ t) ∙ h
  | inr f ↦ ap (has i) (cond-false (has n list) _ _ f) ∙ list_any-append (λ c. c.0 == i) list (chunk_no n ∷ []) ∙ or_left (has i list) _ h
]

joined_new : (n : ℕ) (list : List ChunkNo) → has n (joined n list) ≡ true
joined_new n list = elim (cases_Bool (has n list)) [
  | inl t ↦ ap (has n) (cond-true (has n list) _ _ t) ∙ t
  | inr f ↦ ap (has n) (cond-false (has n list) _ _ f) ∙ list_any-append (λ c. c.0 == n) list (chunk_no n ∷ []) ∙ or_right (has n list) _ (or_left (n == n) false (eq-eqb n n refl))
]

fold_keeps : (into : ℕ → ℕ) (list before : List ChunkNo) (i : ℕ) → has i before ≡ true → has i (fold (λ b c. joined (into c.0) b) before list) ≡ true
fold_keeps into [] before i h = h
fold_keeps into (c ∷ list) before i h = fold_keeps into list (joined (into c.0) before) i (joined_keeps i (into c.0) before h)

fold_has : (into : ℕ → ℕ) (list before : List ChunkNo) (i : ℕ) → has i list ≡ true → has (into i) (fold (λ b c. joined (into c.0) b) before list) ≡ true
fold_has into [] before i h = absurd (false≢true h)
fold_has into (c ∷ list) before i h = elim (or_cases (c.0 == i) (has i list) h) [
  | inl here ↦ fold_keeps into list (joined (into c.0) before) (into i)
      (ap (λ k. has (into k) (joined (into c.0) before)) (sym (eqb-true c.0 i here)) ∙ joined_new (into c.0) before)
  | inr later ↦ fold_has into list (joined (into c.0) before) i later
]

-- what stands for a chunk is not behind it and has its modules
record StandsIn (chunks : List Chunk) (i j : ℕ) : Type 0 where
  below : j ≤ i
  same : (get_or chunks j no_chunk).mods ≡ (get_or chunks i no_chunk).mods

stands_itself : (chunks : List Chunk) (i j : ℕ) → j ≡ i → StandsIn chunks i j
stands_itself chunks i j e = record { below = omega (arith, e); same = ap (λ k. (get_or chunks k no_chunk).mods) e }

stands_in : (chunks : List Chunk) (i : ℕ) → StandsIn chunks i (merged_into chunks i)
stands_in chunks i =
    let x = get_or chunks i no_chunk in
    elim (cases_Bool (may_merge x)) [
      | inl may ↦
          let p : ℕ → Bool = λ j. are_equal x (get_or chunks j no_chunk) in
          let j = position_or_len p (range_with_len 0 i) in
          let P : ℕ → Type 0 = λ k. StandsIn chunks i k in
          subst P (sym (cond-true (may_merge x) j i may)) (elim (cases_lt j i) [
            | inl lt ↦
                let y = get_or chunks j no_chunk in
                record { below = omega arith; same = from_same_row y.mods x.mods (and_parts (may_merge y) (same_row y.mods x.mods) (first_passes p i lt)).1 }
            | inr ge ↦ let e : j ≡ i = omega (arith, ge, first_le p i) in stands_itself chunks i j e
          ])
      | inr not_so ↦ stands_itself chunks i (merged_into chunks i) (cond-false (may_merge x) _ i not_so)
    ]

pub merged-loses-none : (s : State) → LosesNone s (merged s)
merged-loses-none s g m h =
    let one = some_has (λ i. holds s i m) (group_at s g) h in
    let i = one.0 in
    let j = merged_into s.chunks i in
    let stands = stands_in s.chunks i in
    let lt : j < length s.chunks = omega (arith, stands.below, holder_within s i m one.2) in
    let list : group_at (merged s) g ≡ merged_list s.chunks (group_at s g) = get_or-map_all (merged_list s.chunks) s.groups g [] in
    let chunk : chunk_at (merged s) j ≡ merged_chunk s.chunks j = get_or-map-range_with_len (merged_chunk s.chunks) 0 (length s.chunks) j j no_chunk lt (omega arith) in
    has_some (λ k. holds (merged s) k m) (group_at (merged s) g) j (ap (has j) list ∙ fold_has (merged_into s.chunks) (group_at s g) [] i one.1)
    (ap (λ c. is_in c.mods m) chunk ∙ ap (λ mods. is_in mods m) stands.same ∙ one.2)

-- ---- empty chunks left out

some_place : (row : List Bool) (m : ℕ) → is_in row m ≡ true → 0 < count row
some_place row m held = elim (cases_lt m (length row)) [
  | inl lt ↦ omega (arith, sum_by_more_le (λ b. cond {A = ℕ} b 1 0) row m false lt, ap (λ b. cond {A = ℕ} b 1 0) held)
  | inr past ↦ absurd (false≢true (sym (get_or_past row m false past) ∙ held))
]

and_false : (a b : Bool) → b ≡ false → (a && b) ≡ false
and_false true b e = e
and_false false b e = refl

kept_in : (p : ChunkNo → Bool) (list : List ChunkNo) (i : ℕ) → has i list ≡ true → p (chunk_no i) ≡ true → has i (filter p list) ≡ true
kept_in p [] i h passes = absurd (false≢true h)
kept_in p (c ∷ list) i h passes = elim (cases_Bool (p c)) [
  | inl t ↦ ap (has i) (cond-true (p c) (c ∷ filter p list) (filter p list) t)
      ∙ elim (or_cases (c.0 == i) (has i list) h) [
        | inl here ↦ or_left (c.0 == i) _ here
        | inr later ↦ or_right (c.0 == i) _ (kept_in p list i later passes)
      ]
  | inr f ↦ ap (has i) (cond-false (p c) (c ∷ filter p list) (filter p list) f)
      ∙ elim (or_cases (c.0 == i) (has i list) h) [
        | inl here ↦ absurd (false≢true (sym f ∙ ap (λ k. p (chunk_no k)) (eqb-true c.0 i here) ∙ passes))
        | inr later ↦ kept_in p list i later passes
      ]
]

pub emptied-loses-none : (s : State) → LosesNone s (without_empty s)
emptied-loses-none s g m h =
    let one = some_has (λ i. holds s i m) (group_at s g) h in
    let i = one.0 in
    let lt = holder_within s i m one.2 in
    let full : is_empty (chunk_at s i) ≡ false = and_false (not (chunk_at s i).entry) (count (chunk_at s i).mods == 0) (ne_eqb _ _ (λ e. omega (arith, e, some_place (chunk_at s i).mods m one.2))) in
    let list : group_at (without_empty s) g ≡ needed s.chunks (group_at s g) = get_or-map_all (needed s.chunks) s.groups g [] in
    let chunk : chunk_at (without_empty s) i ≡ gone_if_empty (chunk_at s i) = get_or-map gone_if_empty s.chunks i no_chunk no_chunk lt in
    has_some (λ k. holds (without_empty s) k m) (group_at (without_empty s) g) i
    (ap (has i) list ∙ kept_in (λ c. not (is_empty (chunk_at s c.0))) (group_at s g) i one.1 (ap not full)) (ap (λ c. is_in c.mods m) chunk ∙ one.2)
