-- What a split keeps: no group loses a module, and without a name none gains one.
use Rattle.std.proofs.Common.{◌≡◌, ℕ, ◌<◌, ◌&&◌, ◌||◌, ◌==◌, Bool, true, false, not, Option, None, Some, List, [], ◌∷◌, ◌++◌, map, get_or, length, replicate, if◌then◌else◌, refl, sym, ap, ◌∙◌, inl, inr, zero-add, arith}
use Rattle.std.specs.List.{range_with_len, list_any}
use Rattle.std.proofs.Math.ListN.{set}
use Rattle.std.proofs.lemmas.Bool.{cases_eq, cases_lt, cases_Bool, true≢false, false≢true, and_parts, or_cases, or_left, or_right, eq-eqb, eqb-true, ne_eqb, cond-true, cond-false, false_from_ne_true}
use Rattle.std.proofs.lemmas.List.{get_or-set_same, get_or-set_other, get_or_past, get_or_append_left, length-append, length-replicate, get_or-replicate, get_or_push}
use Rattle.std.proofs.lemmas.List.Folds.{list_any-append}
use Rattle.std.proofs.lemmas.List.FromFn.{get_or-map-range_with_len, length-map-range_with_len, get_or-range_with_len, length-range_with_len}
use Rattle.std.proofs.lemmas.List.Quantifiers.{position-Some}
use Rattle.std.proofs.lemmas.Simd.{get_or-zip2, length-zip2}
use Rattle.pack_util.specs.declared.number.ChunkNo.{ChunkNo}
use Rattle.chunk_graph.specs.declared.chunk.Chunk.{Chunk}
use Rattle.chunk_graph.specs.Chunks.{State, IsShaped, no_chunk, chunk_at, is_in, holds, has, group_at, has_module}
use Rattle.chunk_graph.specs.Moves.{chunk_no, joined, moved_one, with_moved, with_closed, with_new, new_chunk}
use Rattle.chunk_graph.proofs.Lists.{get_or-map_all, has-joined}
use Rattle.split_plan.specs.declared.candidate.Candidate.{Candidate}
use Rattle.split_plan.specs.Plan.{Plan, rule_at}
use Rattle.split_plan.specs.Candidates.{IsCandidate, goes}
use Rattle.split_plan.specs.Step.{with_joined, with_name_spent, with_taken, after_at, after_split, reused_by, reused_of, is_reusable}
use Rattle.split_plan.proofs.Places.{is_in-below}
use Rattle.split_plan.proofs.Found.{chunks_len, some_isnt_none}
use Rattle.split_plan.proofs.Sets.{lies_at, sharer_holds}
use Rattle.split_plan.specs.Shares.{sharers, meets}
use Rattle.split_plan.specs.declared.rule.Rule.{Rule}
use Rattle.chunk_graph.proofs.Rows.{from_same_row}
use Rattle.std.specs.Simd.Lanes.{zip2}

-- ---- rows, place by place

both_past : (f : Bool → Bool → Bool) → f false false ≡ false → (xs ys : List Bool) (m : ℕ) → length xs ≡ length ys → is_in (zip2 f xs ys) m ≡ f (is_in xs m) (is_in ys m)
both_past f z xs ys m len = elim (cases_lt m (length xs)) [
  | inl lt ↦ get_or-zip2 f xs ys m false false false lt (omega arith)
  | inr ge ↦
      let size = length-zip2 f xs ys len in
      get_or_past (zip2 f xs ys) m false (omega arith) ∙ sym z ∙ ap (λ b. f b false) (sym (get_or_past xs m false ge)) ∙ ap (f (is_in xs m)) (sym (get_or_past ys m false (omega arith)))
]

moved_holds : (modules : List Bool) (is_to leaves : Bool) (c : Chunk) (m : ℕ) → length c.mods ≡ length modules
    → is_in (moved_one modules is_to leaves c).mods m ≡ (if is_to then is_in c.mods m || is_in modules m else (if leaves then is_in c.mods m && not (is_in modules m) else is_in c.mods m))
moved_holds modules true leaves c m len = both_past (λ x y. x || y) refl c.mods modules m len
moved_holds modules false true c m len = both_past (λ x y. x && not y) refl c.mods modules m len
moved_holds modules false false c m len = refl

-- ---- the state after a split

pub spent_chunks : (name : Option (List ℕ)) (k : ℕ) (s : State) → (with_name_spent name k s).chunks ≡ s.chunks
spent_chunks None k s = refl
spent_chunks (Some name) k s = refl

spent_groups : (name : Option (List ℕ)) (k : ℕ) (s : State) → (with_name_spent name k s).groups ≡ s.groups
spent_groups None k s = refl
spent_groups (Some name) k s = refl

closed_mods : (s : State) (n i : ℕ) → n < length s.chunks → (chunk_at (with_closed n s) i).mods ≡ (chunk_at s i).mods
closed_mods s n i lt = elim (cases_eq i n) [
  | inl e ↦ ap (λ j. (chunk_at (with_closed n s) j).mods) e ∙ ap (λ c. c.mods) (get_or-set_same s.chunks n _ no_chunk lt) ∙ ap (λ j. (chunk_at s j).mods) (sym e)
  | inr ne ↦ ap (λ c. c.mods) (get_or-set_other s.chunks n i _ no_chunk ne)
]

-- each chunk of the state has a place for each of the modules
abbrev pub AreEven : State → List Bool → Type 0
AreEven s modules = (i : ℕ) → i < length s.chunks → length (chunk_at s i).mods ≡ length modules

pub holds-taken : (p : Plan) (s : State) (x : Candidate) (n i m : ℕ) → AreEven s x.modules → n < length s.chunks → ((j : ℕ) → is_in x.chunks j ≡ true → j < length s.chunks)
    → holds (with_taken p x n s) i m ≡ (if i == n then holds s i m || is_in x.modules m else (if is_in x.chunks i then holds s i m && not (is_in x.modules m) else holds s i m))
holds-taken p s x n i m even lt within =
    let one : ℕ → Chunk = λ j. moved_one x.modules (j == n) (is_in x.chunks j) (chunk_at s j) in
    let moved = with_joined x.chunks n (with_moved x.modules x.chunks n s) in
    let size = length-map-range_with_len one 0 (length s.chunks) in
    let start : holds (with_taken p x n s) i m ≡ is_in (chunk_at moved i).mods m =
    ap (λ chunks. is_in (get_or chunks i no_chunk).mods m) (spent_chunks (rule_at p x.cache_group).name x.cache_group (with_closed n moved)) ∙ ap (λ mods. is_in mods m) (closed_mods moved n i (omega arith)) in
    start ∙ elim (cases_lt i (length s.chunks)) [
      | inl l ↦ ap (λ c. is_in c.mods m) (get_or-map-range_with_len one 0 (length s.chunks) i i no_chunk l (omega arith)) ∙ moved_holds x.modules (i == n) (is_in x.chunks i) (chunk_at s i) m (even i l)
      | inr ge ↦
          let none : holds s i m ≡ false = ap (λ c. is_in c.mods m) (get_or_past s.chunks i no_chunk ge) in
          let past : is_in (chunk_at moved i).mods m ≡ false = ap (λ c. is_in c.mods m) (get_or_past (map one (range_with_len 0 (length s.chunks))) i no_chunk (omega arith)) in
          let apart : (i == n) ≡ false = ne_eqb i n (omega arith) in
          let outside : is_in x.chunks i ≡ false = false_from_ne_true (is_in x.chunks i) (λ t. let b = within i t in omega arith) in
          past ∙ sym none ∙ sym (cond-false (i == n) _ _ apart ∙ cond-false (is_in x.chunks i) _ _ outside)
    ]

pub group-taken : (p : Plan) (s : State) (x : Candidate) (n g : ℕ)
    → group_at (with_taken p x n s) g ≡ (if list_any (λ c. is_in x.chunks c.0) (group_at s g) then joined n (group_at s g) else group_at s g)
group-taken p s x n g =
    let f : List ChunkNo → List ChunkNo = λ list. if list_any (λ c. is_in x.chunks c.0) list then joined n list else list in
    ap (λ groups. get_or groups g []) (spent_groups (rule_at p x.cache_group).name x.cache_group (with_closed n (with_joined x.chunks n (with_moved x.modules x.chunks n s))))
    ∙ get_or-map_all f s.groups g []

-- ---- chunks of lists

pub some_has : (P : ℕ → Bool) (list : List ChunkNo) → list_any (λ c. P c.0) list ≡ true → (i : ℕ) × (has i list ≡ true) × (P i ≡ true)
some_has P [] h = absurd (false≢true h)
some_has P (c ∷ list) h = elim (or_cases (P c.0) (list_any (λ d. P d.0) list) h) [
  | inl t ↦ (c.0, or_left (c.0 == c.0) (has c.0 list) (eq-eqb c.0 c.0 refl), t)
  | inr r ↦ let q = some_has P list r in (q.0, or_right (c.0 == q.0) (has q.0 list) q.1, q.2)
]

pub has_some : (P : ℕ → Bool) (list : List ChunkNo) (i : ℕ) → has i list ≡ true → P i ≡ true → list_any (λ c. P c.0) list ≡ true
has_some P [] i h t = absurd (false≢true h)
has_some P (c ∷ list) i h t = elim (or_cases (c.0 == i) (has i list) h) [
  | inl e ↦ or_left (P c.0) _ (ap P (eqb-true c.0 i e) ∙ t)
  | inr r ↦ or_right (P c.0) _ (has_some P list i r t)
]

joined_has : (i n : ℕ) (list : List ChunkNo) → has i list ≡ true → has i (joined n list) ≡ true
joined_has i n list h = elim (cases_Bool (has n list)) [
  | inl t ↦ ap (has i) (cond-true (has n list) _ _ t) ∙ h
  | inr f ↦ ap (has i) (cond-false (has n list) _ _ f) ∙ list_any-append (λ c. c.0 == i) list (chunk_no n ∷ []) ∙ or_left (has i list) _ h
]

joined_own : (n : ℕ) (list : List ChunkNo) → has n (joined n list) ≡ true
joined_own n list = elim (cases_Bool (has n list)) [
  | inl t ↦ ap (has n) (cond-true (has n list) _ _ t) ∙ t
  | inr f ↦ ap (has n) (cond-false (has n list) _ _ f) ∙ list_any-append (λ c. c.0 == n) list (chunk_no n ∷ []) ∙ or_right (has n list) _ (or_left (n == n) false (eq-eqb n n refl))
]

-- a group keeps its chunks
stays : (p : Plan) (s : State) (x : Candidate) (n g i : ℕ) → has i (group_at s g) ≡ true → has i (group_at (with_taken p x n s) g) ≡ true
stays p s x n g i h = elim (cases_Bool (list_any (λ c. is_in x.chunks c.0) (group_at s g))) [
  | inl t ↦ ap (has i) (group-taken p s x n g ∙ cond-true _ _ _ t) ∙ joined_has i n (group_at s g) h
  | inr f ↦ ap (has i) (group-taken p s x n g ∙ cond-false _ _ _ f) ∙ h
]

-- ---- no group loses a module

kept_at : (p : Plan) (s : State) (x : Candidate) (n g m i : ℕ) → AreEven s x.modules → n < length s.chunks → ((j : ℕ) → is_in x.chunks j ≡ true → j < length s.chunks)
    → has i (group_at s g) ≡ true → holds s i m ≡ true → has_module (with_taken p x n s) g m ≡ true
kept_at p s x n g m i even lt within there h =
    let t = with_taken p x n s in
    let P : ℕ → Bool = λ j. holds t j m in
    let value = holds-taken p s x n i m even lt within in
    elim (cases_Bool (i == n)) [
      | inl e ↦ has_some P (group_at t g) i (stays p s x n g i there) (value ∙ cond-true (i == n) _ _ e ∙ or_left (holds s i m) _ h)
      | inr ne ↦ elim (cases_Bool (is_in x.chunks i)) [
        | inr f ↦ has_some P (group_at t g) i (stays p s x n g i there) (value ∙ cond-false (i == n) _ _ ne ∙ cond-false (is_in x.chunks i) _ _ f ∙ h)
        | inl e ↦ elim (cases_Bool (is_in x.modules m)) [
          | inr f ↦ has_some P (group_at t g) i (stays p s x n g i there)
              (value ∙ cond-false (i == n) _ _ ne ∙ cond-true (is_in x.chunks i) _ _ e ∙ ap (λ b. holds s i m && not b) f ∙ ap (λ b. b && true) h)
          | inl moved ↦
              let some = has_some (is_in x.chunks) (group_at s g) i there e in
              let own : has n (group_at t g) ≡ true = ap (has n) (group-taken p s x n g ∙ cond-true _ _ _ some) ∙ joined_own n (group_at s g) in
              has_some P (group_at t g) n own
              (holds-taken p s x n n m even lt within ∙ cond-true (n == n) _ _ (eq-eqb n n refl) ∙ or_right (holds s n m) _ moved)
        ]
      ]
    ]

pub kept-taken : (p : Plan) (s : State) (x : Candidate) (n g m : ℕ) → AreEven s x.modules → n < length s.chunks → ((j : ℕ) → is_in x.chunks j ≡ true → j < length s.chunks)
    → has_module s g m ≡ true → has_module (with_taken p x n s) g m ≡ true
kept-taken p s x n g m even lt within h =
    let q = some_has (λ i. holds s i m) (group_at s g) h in kept_at p s x n g m q.0 even lt within q.1 q.2

-- ---- a chunk more, without modules

pub new_even : (s : State) (name : Option (List ℕ)) (modules : List Bool) → AreEven s modules → length modules ≡ s.width → AreEven (with_new name s) modules
new_even s name modules even width i lt =
    let size = length-append s.chunks (new_chunk name s.width ∷ []) in
    elim (cases_lt i (length s.chunks)) [
      | inl l ↦ ap (λ c. length c.mods) (get_or_append_left s.chunks (new_chunk name s.width ∷ []) no_chunk i l) ∙ even i l
      | inr ge ↦ let e : i ≡ length s.chunks = omega arith in
          ap (λ j. length (chunk_at (with_new name s) j).mods) e ∙ ap (λ c. length c.mods) (get_or_push s.chunks (new_chunk name s.width) no_chunk (length s.chunks) refl)
          ∙ length-replicate s.width false ∙ sym width
    ]

new_holds : (s : State) (name : Option (List ℕ)) (i m : ℕ) → holds (with_new name s) i m ≡ holds s i m
new_holds s name i m = elim (cases_lt i (length s.chunks)) [
  | inl l ↦ ap (λ c. is_in c.mods m) (get_or_append_left s.chunks (new_chunk name s.width ∷ []) no_chunk i l)
  | inr ge ↦ elim (cases_eq i (length s.chunks)) [
    | inl e ↦
        let blank : is_in (replicate s.width false) m ≡ false = elim (cases_lt m s.width) [ inl l ↦ get_or-replicate s.width m false false l | inr g ↦ get_or_past (replicate s.width false) m false (omega (arith, length-replicate s.width false)) ] in
        ap (λ j. holds (with_new name s) j m) e ∙ ap (λ c. is_in c.mods m) (get_or_push s.chunks (new_chunk name s.width) no_chunk (length s.chunks) refl) ∙ blank
        ∙ sym (ap (λ c. is_in c.mods m) (get_or_past s.chunks i no_chunk ge))
    | inr ne ↦ ap (λ c. is_in c.mods m) (get_or_past (s.chunks ++ new_chunk name s.width ∷ []) i no_chunk (omega (arith, length-append s.chunks (new_chunk name s.width ∷ []))))
        ∙ sym (ap (λ c. is_in c.mods m) (get_or_past s.chunks i no_chunk ge))
  ]
]

any_alike : (P Q : ℕ → Bool) (list : List ChunkNo) → ((i : ℕ) → P i ≡ Q i) → list_any (λ c. P c.0) list ≡ list_any (λ c. Q c.0) list
any_alike P Q [] h = refl
any_alike P Q (c ∷ list) h = ap (λ b. b || list_any (λ d. P d.0) list) (h c.0) ∙ ap (λ b. Q c.0 || b) (any_alike P Q list h)

new_has : (s : State) (name : Option (List ℕ)) (g m : ℕ) → has_module (with_new name s) g m ≡ has_module s g m
new_has s name g m = any_alike (λ i. holds (with_new name s) i m) (λ i. holds s i m) (group_at s g) (λ i. new_holds s name i m)

-- ---- one split

pub reused_is : (name : Option (List ℕ)) (reuse : Bool) (s : State) (chunks modules : List Bool) (n : ℕ) → reused_by name reuse s chunks modules ≡ Some n → n < length s.chunks
reused_is None true s chunks modules n e =
    let q = position-Some (is_reusable s chunks modules) (range_with_len 0 (length s.chunks)) n 0 e in omega (arith, q.0, length-range_with_len 0 (length s.chunks))
reused_is None false s chunks modules n e = cc
reused_is (Some name) reuse s chunks modules n e = cc

kept_after : (p : Plan) (s : State) (x : Candidate) (o : Option ℕ) (g m : ℕ) → AreEven s x.modules → length x.modules ≡ s.width → ((j : ℕ) → is_in x.chunks j ≡ true → j < length s.chunks)
    → ((n : ℕ) → o ≡ Some n → n < length s.chunks) → has_module s g m ≡ true → has_module (after_at p s x o) g m ≡ true
kept_after p s x (Some n) g m even width within old h = kept-taken p s x n g m even (old n refl) within h
kept_after p s x None g m even width within old h =
    let name = (rule_at p x.cache_group).name in
    let size = length-append s.chunks (new_chunk name s.width ∷ []) in
    kept-taken p (with_new name s) x (length s.chunks) g m (new_even s name x.modules even width) (omega arith) (λ j t. omega (arith, within j t)) (new_has s name g m ∙ h)

pub kept-split : (p : Plan) (s : State) (x : Candidate) (g m : ℕ) → IsShaped s → s.width ≡ length p.sizes → IsCandidate p s x → has_module s g m ≡ true → has_module (after_split p s x) g m ≡ true
kept-split p s x g m shaped width is h =
    let rule = rule_at p x.cache_group in
    let len : length x.modules ≡ s.width = ap length is.modules ∙ length-map-range_with_len (goes rule.name rule x.forced s x.chunks) 0 (length p.sizes) ∙ sym width in
    let chunks = chunks_len rule.name rule x.cache_group x.forced s (length p.sizes) x.chunks is.arises in
    kept_after p s x (reused_of p s x) g m (λ i lt. shaped.even i lt ∙ sym len) len (λ j t. omega (arith, chunks, is_in-below x.chunks j t))
    (λ n e. reused_is rule.name rule.reuse s x.chunks x.modules n e) h

-- ---- without a name no group gains one

-- what is true of a split without a name: its modules are held by each of its chunks, and the chunk that takes them
-- holds no others and stands only in groups that have a chunk of the set
pub record TakesOwn (s : State) (x : Candidate) (n : ℕ) : Type 0 where
  pub held : (m j : ℕ) → is_in x.modules m ≡ true → is_in x.chunks j ≡ true → holds s j m ≡ true
  pub own : (m : ℕ) → holds s n m ≡ true → is_in x.modules m ≡ true
  pub known : (g : ℕ) → has n (group_at s g) ≡ true → is_in x.chunks n ≡ true

was_held : (p : Plan) (s : State) (x : Candidate) (n i m : ℕ) → AreEven s x.modules → n < length s.chunks → ((j : ℕ) → is_in x.chunks j ≡ true → j < length s.chunks)
    → (i == n) ≡ false → holds (with_taken p x n s) i m ≡ true → holds s i m ≡ true
was_held p s x n i m even lt within ne h =
    let value = sym (cond-false (i == n) _ _ ne) ∙ sym (holds-taken p s x n i m even lt within) ∙ h in
    elim (cases_Bool (is_in x.chunks i)) [
      | inl e ↦ (and_parts (holds s i m) _ (sym (cond-true (is_in x.chunks i) _ _ e) ∙ value)).0
      | inr f ↦ sym (cond-false (is_in x.chunks i) _ _ f) ∙ value
    ]

gained_at : (p : Plan) (s : State) (x : Candidate) (n g m i : ℕ) → AreEven s x.modules → n < length s.chunks → ((j : ℕ) → is_in x.chunks j ≡ true → j < length s.chunks) → TakesOwn s x n
    → has i (group_at (with_taken p x n s) g) ≡ true → holds (with_taken p x n s) i m ≡ true → has_module s g m ≡ true
gained_at p s x n g m i even lt within takes there h =
    let G = group_at s g in
    let P : ℕ → Bool = λ j. holds s j m in
    elim (cases_Bool (list_any (λ c. is_in x.chunks c.0) G)) [
      | inr f ↦
          let inside : has i G ≡ true = sym (ap (has i) (group-taken p s x n g ∙ cond-false _ _ _ f)) ∙ there in
          elim (cases_eq i n) [
            | inl e ↦ absurd (true≢false (sym (has_some (is_in x.chunks) G n (ap (λ k. has k G) (sym e) ∙ inside) (takes.known g (ap (λ k. has k G) (sym e) ∙ inside))) ∙ f))
            | inr ne ↦ has_some P G i inside (was_held p s x n i m even lt within (ne_eqb i n ne) h)
          ]
      | inl t ↦
          let inside : has i (joined n G) ≡ true = sym (ap (has i) (group-taken p s x n g ∙ cond-true _ _ _ t)) ∙ there in
          let some = some_has (is_in x.chunks) G t in
          elim (cases_eq i n) [
            | inl e ↦
                let value : (holds s n m || is_in x.modules m) ≡ true =
                sym (cond-true (n == n) _ _ (eq-eqb n n refl)) ∙ sym (holds-taken p s x n n m even lt within) ∙ ap (λ k. holds (with_taken p x n s) k m) (sym e) ∙ h in
                let moved : is_in x.modules m ≡ true = elim (or_cases (holds s n m) (is_in x.modules m) value) [ inl o ↦ takes.own m o | inr o ↦ o ] in
                has_some P G some.0 some.1 (takes.held m some.0 moved some.2)
            | inr ne ↦ elim (has-joined i n G inside) [
              | inl k ↦ has_some P G i k (was_held p s x n i m even lt within (ne_eqb i n ne) h)
              | inr e ↦ absurd (ne e)
            ]
          ]
    ]

pub gained-taken : (p : Plan) (s : State) (x : Candidate) (n g m : ℕ) → AreEven s x.modules → n < length s.chunks → ((j : ℕ) → is_in x.chunks j ≡ true → j < length s.chunks) → TakesOwn s x n
    → has_module (with_taken p x n s) g m ≡ true → has_module s g m ≡ true
gained-taken p s x n g m even lt within takes h =
    let q = some_has (λ i. holds (with_taken p x n s) i m) (group_at (with_taken p x n s) g) h in gained_at p s x n g m q.0 even lt within takes q.1 q.2

goes_held : (name : Option (List ℕ)) (rule : Rule) (forced : Bool) (s : State) (set : List Bool) (m j : ℕ) → name ≡ None → goes name rule forced s set m ≡ true → is_in set j ≡ true → holds s j m ≡ true
goes_held None rule forced s set m j e h there = (sharer_holds rule forced s m j (lies_at set (sharers rule forced s m) j (and_parts (meets rule m) _ h).1 there)).1
goes_held (Some name) rule forced s set m j e h there = absurd (some_isnt_none name e)

all_held : (p : Plan) (s : State) (x : Candidate) → IsCandidate p s x → (rule_at p x.cache_group).name ≡ None → (m j : ℕ) → is_in x.modules m ≡ true → is_in x.chunks j ≡ true → holds s j m ≡ true
all_held p s x is unnamed m j moved there =
    let rule = rule_at p x.cache_group in
    let f : ℕ → Bool = goes rule.name rule x.forced s x.chunks in
    let size = length-map-range_with_len f 0 (length p.sizes) in
    let row : is_in (map f (range_with_len 0 (length p.sizes))) m ≡ true = sym (ap (λ r. is_in r m) is.modules) ∙ moved in
    let lt = is_in-below (map f (range_with_len 0 (length p.sizes))) m row in
    goes_held rule.name rule x.forced s x.chunks m j unnamed (sym (get_or-map-range_with_len f 0 (length p.sizes) m m false (omega arith) (omega arith)) ∙ row) there

pub reusable_at : (name : Option (List ℕ)) (reuse : Bool) (s : State) (chunks modules : List Bool) (n : ℕ) → reused_by name reuse s chunks modules ≡ Some n → is_reusable s chunks modules n ≡ true
reusable_at None true s chunks modules n e =
    let q = position-Some (is_reusable s chunks modules) (range_with_len 0 (length s.chunks)) n 0 e in
    let size = length-range_with_len 0 (length s.chunks) in
    sym (ap (is_reusable s chunks modules) (get_or-range_with_len 0 (length s.chunks) n 0 (omega (arith, q.0)) ∙ zero-add n)) ∙ q.1
reusable_at None false s chunks modules n e = cc
reusable_at (Some name) reuse s chunks modules n e = cc

gained_after : (p : Plan) (s : State) (x : Candidate) (o : Option ℕ) (g m : ℕ) → IsShaped s → IsCandidate p s x → (rule_at p x.cache_group).name ≡ None → AreEven s x.modules → length x.modules ≡ s.width
    → ((j : ℕ) → is_in x.chunks j ≡ true → j < length s.chunks) → ((n : ℕ) → o ≡ Some n → (n < length s.chunks) × (is_reusable s x.chunks x.modules n ≡ true))
    → has_module (after_at p s x o) g m ≡ true → has_module s g m ≡ true
gained_after p s x (Some n) g m shaped is unnamed even width within old h =
    let q = old n refl in
    let parts = and_parts (is_in x.chunks n) _ q.1 in
    let same = from_same_row (chunk_at s n).mods x.modules (and_parts (not (chunk_at s n).entry) _ parts.1).1 in
    gained-taken p s x n g m even q.0 within (record {
      held = all_held p s x is unnamed;
      own = λ k t. sym (ap (λ r. is_in r k) same) ∙ t;
      known = λ k t. parts.0;
    }) h
gained_after p s x None g m shaped is unnamed even width within old h =
    let name = (rule_at p x.cache_group).name in
    let size = length-append s.chunks (new_chunk name s.width ∷ []) in
    sym (new_has s name g m) ∙ gained-taken p (with_new name s) x (length s.chunks) g m (new_even s name x.modules even width) (omega arith) (λ j t. omega (arith, within j t)) (record {
      held = λ k j t c. new_holds s name j k ∙ all_held p s x is unnamed k j t c;
      own = λ k t. absurd (true≢false (sym t ∙ new_holds s name (length s.chunks) k ∙ ap (λ c. is_in c.mods k) (get_or_past s.chunks (length s.chunks) no_chunk (omega arith))));
      known = λ k t. absurd (omega (arith, (shaped.within k (length s.chunks) t).0));
    }) h

pub gained-split : (p : Plan) (s : State) (x : Candidate) (g m : ℕ) → IsShaped s → s.width ≡ length p.sizes → IsCandidate p s x → (rule_at p x.cache_group).name ≡ None
    → has_module (after_split p s x) g m ≡ true → has_module s g m ≡ true
gained-split p s x g m shaped width is unnamed h =
    let rule = rule_at p x.cache_group in
    let len : length x.modules ≡ s.width = ap length is.modules ∙ length-map-range_with_len (goes rule.name rule x.forced s x.chunks) 0 (length p.sizes) ∙ sym width in
    let chunks = chunks_len rule.name rule x.cache_group x.forced s (length p.sizes) x.chunks is.arises in
    gained_after p s x (reused_of p s x) g m shaped is unnamed (λ i lt. shaped.even i lt ∙ sym len) len (λ j t. omega (arith, chunks, is_in-below x.chunks j t))
    (λ n e. (reused_is rule.name rule.reuse s x.chunks x.modules n e, reusable_at rule.name rule.reuse s x.chunks x.modules n e)) h
