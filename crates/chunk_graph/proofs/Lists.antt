-- Which chunks stand in lists that were made from others.
use Rattle.std.proofs.Common.{◌≡◌, ℕ, ◌+◌, ◌<◌, ◌≤◌, zero, suc, Bool, true, false, not, ◌==◌, ◌⊎◌, List, Option, [], ◌∷◌, ◌++◌, map, filter, fold, get_or, length, refl, sym, ap, subst, ◌∙◌, inl, inr, zero-add, arith}
use Rattle.std.specs.List.{range_with_len, position_or_len}
use Rattle.std.proofs.lemmas.Bool.{or_cases, cond_both, eqb-true, or_left, or_right, eq-eqb}
use Rattle.std.proofs.lemmas.List.Folds.{list_any-append, list_any_at}
use Rattle.std.proofs.lemmas.List.FromFn.{get_or-range_with_len, length-range_with_len, map-range_with_len_more}
use Rattle.std.proofs.lemmas.List.Sums.{position_or_len_is, fails_before_first, passes_at_first, prefix_len-le-length}
use Rattle.pack_util.specs.declared.number.ChunkNo.{ChunkNo}
use Rattle.chunk_graph.specs.declared.chunk.Chunk.{Chunk}
use Rattle.chunk_graph.specs.Chunks.{has}
use Rattle.chunk_graph.specs.Moves.{chunk_no, joined}

pub has_one : (i j : ℕ) → has i (chunk_no j ∷ []) ≡ true → i ≡ j
has_one i j h = elim (or_cases (j == i) false h) [ inl e ↦ sym (eqb-true j i e) | inr e ↦ cc ]

pub has-joined : (i j : ℕ) (list : List ChunkNo) → has i (joined j list) ≡ true → (has i list ≡ true) ⊎ (i ≡ j)
has-joined i j list = cond_both (has j list) list (list ++ chunk_no j ∷ []) (λ l. has i l ≡ true → (has i list ≡ true) ⊎ (i ≡ j))
    (λ e h. inl h)
    (λ e h. elim (or_cases (has i list) (has i (chunk_no j ∷ [])) (sym (list_any-append (λ c. c.0 == i) list (chunk_no j ∷ [])) ∙ h)) [ inl p ↦ inl p | inr q ↦ inr (has_one i j q) ])

-- a chunk of the list that `into` takes to this number
abbrev pub ComesFrom : (ℕ → ℕ) → List ChunkNo → ℕ → Type 0
ComesFrom into list i = (c : ℕ) × (has c list ≡ true) × (i ≡ into c)

comes_later : (into : ℕ → ℕ) (c : ChunkNo) (list : List ChunkNo) (i : ℕ) → ComesFrom into list i → ComesFrom into (c ∷ list) i
comes_later into c list i (d, h, e) = (d, or_right (c.0 == d) (has d list) h, e)

comes_first : (into : ℕ → ℕ) (c : ChunkNo) (list : List ChunkNo) → ComesFrom into (c ∷ list) (into c.0)
comes_first into c list = (c.0, or_left (c.0 == c.0) (has c.0 list) (eq-eqb c.0 c.0 refl), refl)

pub has-fold : (into : ℕ → ℕ) (list before : List ChunkNo) (i : ℕ) → has i (fold (λ b c. joined (into c.0) b) before list) ≡ true
    → (has i before ≡ true) ⊎ ComesFrom into list i
has-fold into [] before i h = inl h
has-fold into (c ∷ list) before i h = elim (has-fold into list (joined (into c.0) before) i h) [
  | inl p ↦ elim (has-joined i (into c.0) before p) [
    | inl q ↦ inl q
    | inr e ↦ inr (let P : ℕ → Type 0 = λ n. ComesFrom into (c ∷ list) n in subst P (sym e) (comes_first into c list))
  ]
  | inr f ↦ inr (comes_later into c list i f)
]

pub has-filter : (p : ChunkNo → Bool) (list : List ChunkNo) (i : ℕ) → has i (filter p list) ≡ true → (has i list ≡ true) × (p (chunk_no i) ≡ true)
has-filter p [] i = λ h. cc
has-filter p (c ∷ list) i = cond_both (p c) (c ∷ filter p list) (filter p list) (λ l. has i l ≡ true → (has i (c ∷ list) ≡ true) × (p (chunk_no i) ≡ true))
    (λ e h. elim (or_cases (c.0 == i) (has i (filter p list)) h) [
      | inl q ↦ (or_left (c.0 == i) (has i list) q, ap (λ n. p (chunk_no n)) (sym (eqb-true c.0 i q)) ∙ e)
      | inr q ↦ let r = has-filter p list i q in (or_right (c.0 == i) (has i list) r.0, r.1)
    ])
    (λ e h. let r = has-filter p list i h in (or_right (c.0 == i) (has i list) r.0, r.1))

pub get_or-map_all : {X Y : Type 0} (f : X → Y) (xs : List X) (i : ℕ) (d : X) → get_or (map f xs) i (f d) ≡ f (get_or xs i d)
get_or-map_all f [] i d = refl
get_or-map_all f (x ∷ xs) zero d = refl
get_or-map_all f (x ∷ xs) (suc i) d = get_or-map_all f xs i d

-- the first of the numbers below n that passes
pub first_is : (p : ℕ → Bool) (n i : ℕ) → i ≤ n → ((k : ℕ) → k < i → p k ≡ false) → (i < n → p i ≡ true) → position_or_len p (range_with_len 0 n) ≡ i
first_is p n i le before here =
    let size = length-range_with_len 0 n in
    position_or_len_is p (range_with_len 0 n) i 0 (omega arith)
    (λ k lt. ap p (get_or-range_with_len 0 n k 0 (omega arith) ∙ zero-add k) ∙ before k lt)
    (λ lt. let l : i < n = omega arith in ap p (get_or-range_with_len 0 n i 0 l ∙ zero-add i) ∙ here l)

pub first_le : (p : ℕ → Bool) (n : ℕ) → position_or_len p (range_with_len 0 n) ≤ n
first_le p n = omega (arith, prefix_len-le-length (λ j. not (p j)) (range_with_len 0 n), length-range_with_len 0 n)

pub first_passes : (p : ℕ → Bool) (n : ℕ) → position_or_len p (range_with_len 0 n) < n → p (position_or_len p (range_with_len 0 n)) ≡ true
first_passes p n lt =
    let size = length-range_with_len 0 n in
    sym (ap p (get_or-range_with_len 0 n _ 0 lt ∙ zero-add _)) ∙ passes_at_first p (range_with_len 0 n) 0 (omega arith)

pub first_before : (p : ℕ → Bool) (n k : ℕ) → k < position_or_len p (range_with_len 0 n) → p k ≡ false
first_before p n k lt =
    sym (ap p (get_or-range_with_len 0 n k 0 (omega (arith, first_le p n)) ∙ zero-add k)) ∙ fails_before_first p (range_with_len 0 n) k 0 lt

-- a loop that adds the next value of a function
pub push_range : {X : Type 0} (f : ℕ → X) (xs ys : List X) (n : ℕ) (y : X) → ys ≡ xs ++ y ∷ [] → xs ≡ map f (range_with_len 0 n) → y ≡ f n → ys ≡ map f (range_with_len 0 (n + 1))
push_range f xs ys n y e h v = e ∙ ap (λ l. l ++ y ∷ []) h ∙ ap (λ z. map f (range_with_len 0 n) ++ z ∷ []) v ∙ sym (map-range_with_len_more f 0 n n (omega arith))

-- what stands at a place stands in the list
pub has_at : (list : List ChunkNo) (k : ℕ) (d : ChunkNo) → k < length list → has (get_or list k d).0 list ≡ true
has_at list k d lt = list_any_at (λ c. c.0 == (get_or list k d).0) list k d lt (eq-eqb _ _ refl)

abbrev pub fresh : Bool → Option (List ℕ) → List Bool → Chunk
fresh entry name mods = record { entry = entry; name = name; mods = mods; gone = false; closed = false }

pub same_fresh : (entry : Bool) (n k : Option (List ℕ)) (m l : List Bool) → n ≡ k → m ≡ l → fresh entry n m ≡ fresh entry k l
same_fresh entry n k m l e f = ap (λ x. fresh entry x m) e ∙ ap (λ x. fresh entry k x) f
