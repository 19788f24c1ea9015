-- The split of a candidate keeps all rules.
use Rattle.std.proofs.Common.{◌≡◌, ℕ, ◌+◌, ◌<◌, ◌≤◌, ◌==◌, ◌&&◌, ◌||◌, Bool, true, false, not, Option, None, Some, is_some, nat_lt, nat_le, List, [], ◌∷◌, map, length, refl, sym, ap, subst, ◌∙◌, inl, inr, arith}
use Rattle.std.specs.List.{list_any, list_all, range_with_len, filter}
use Rattle.std.specs.Cmp.Lexicographic.{pointwise}
use Rattle.std.proofs.Math.Bool.{beq}
use Rattle.std.proofs.lemmas.Bool.{and_parts, and_from, or_cases, cases_Bool, eq-eqb, lt-ltb, le-leb, cond-true, cond-false, false≢true}
use Rattle.std.proofs.lemmas.List.{length-set, length-append}
use Rattle.std.proofs.lemmas.List.FromFn.{fill_by_all}
use Rattle.pack_util.specs.declared.number.ChunkNo.{ChunkNo}
use Rattle.pack_util.specs.declared.number.ModuleNo.{ModuleNo}
use Rattle.graph_types.specs.Modules.{module_no}
use Rattle.chunk_graph.specs.declared.split.Split.{Split}
use Rattle.chunk_graph.specs.Chunks.{State, chunk_at, is_in, is_open, count, has}
use Rattle.chunk_graph.specs.Moves.{chunk_no, same_row, with_new, with_moved, with_closed, new_chunk}
use Rattle.chunk_graph.proofs.Rows.{same_row-refl}
use Rattle.split_plan.specs.declared.candidate.Candidate.{Candidate}
use Rattle.split_plan.specs.declared.rule.Rule.{Rule}
use Rattle.split_plan.specs.Plan.{Plan, IsPlan, rule_at}
use Rattle.split_plan.specs.Candidates.{Arises, IsCandidate, bound_of, comes_by, comes_from, modules_for, size_of}
use Rattle.split_plan.specs.Order.{places}
use Rattle.split_plan.specs.Shares.{is_full, is_reached, is_selected, may_share, meets, sharers}
use Rattle.split_plan.specs.Step.{AreSteps, after_at, after_split, made_of, reused_of, split_of, with_joined, with_taken}
use Rattle.split_plan.proofs.Claimed.{some_at}
use Rattle.split_plan.proofs.Falling.{lends_one, shares_one}
use Rattle.split_plan.proofs.Found.{chunks_len}
use Rattle.split_plan.proofs.Keeping.{spent_chunks}
use Rattle.split_plan.proofs.Orders.{in_places, same_fields}
use Rattle.split_plan.proofs.Sets.{sharer_holds}
use Rattle.split_chunks.specs.Accepted.{AreAccepted}
use Rattle.split_chunks.specs.Rules.{broken, claimed, keeps_made, listed_row, same_chunks, same_modules}
use Rattle.split_chunks.specs.inner.Kept.{KeepsFirst, KeepsClaim}
use Rattle.split_chunks.proofs.Kept.{breaks_none}
use Rattle.split_chunks.proofs.Takes.{moved-len}

-- ---- the candidate that a split claims is its own

any_chunk_no : (i : ℕ) (list : List ℕ) → has i (map chunk_no list) ≡ list_any (λ j. j == i) list
any_chunk_no i [] = refl
any_chunk_no i (j ∷ list) = ap (λ b. (j == i) || b) (any_chunk_no i list)

has_places : (row : List Bool) (i : ℕ) → has i (map chunk_no (places row)) ≡ is_in row i
has_places row i = any_chunk_no i (places row) ∙ in_places row i

row-places : (row : List Bool) (n : ℕ) → length row ≡ n → listed_row (map chunk_no (places row)) n ≡ row
row-places row n len = sym (fill_by_all (λ i. has i (map chunk_no (places row))) row n false len (λ i lt. sym (has_places row i)))

pub claims : (p : Plan) (s : State) (x : Candidate) → IsCandidate p s x → claimed p s (split_of p s x) ≡ x
claims p s x is =
    let rule = rule_at p x.cache_group in
    let row = row-places x.chunks (length s.chunks) (chunks_len rule.name rule x.cache_group x.forced s (length p.sizes) x.chunks is.arises) in
    let modules = ap (modules_for rule x.forced s (length p.sizes)) row ∙ sym is.modules in
    same_fields (claimed p s (split_of p s x)) x refl refl row modules (ap (size_of p.sizes) modules ∙ sym is.size)

-- ---- the first three rules

all_places : (P f : ℕ → Bool) (xs : List ℕ) → ((i : ℕ) → f i ≡ true → P i ≡ true) → list_all (λ c. P c.0) (map chunk_no (filter f xs)) ≡ true
all_places P f [] h = refl
all_places P f (x ∷ xs) h = elim (cases_Bool (f x)) [
  | inl t ↦ ap (λ l. list_all (λ c. P c.0) (map chunk_no l)) (cond-true (f x) (x ∷ filter f xs) (filter f xs) t) ∙ and_from (P x) _ (h x t) (all_places P f xs h)
  | inr e ↦ ap (λ l. list_all (λ c. P c.0) (map chunk_no l)) (cond-false (f x) (x ∷ filter f xs) (filter f xs) e) ∙ all_places P f xs h
]

shares_at : (p : Plan) (s : State) (x : Candidate) (i : ℕ) → IsCandidate p s x → is_in x.chunks i ≡ true → may_share (rule_at p x.cache_group) x.forced s i ≡ true
shares_at p s x i is there =
    let rule = rule_at p x.cache_group in
    let one = shares_one rule.name rule x.cache_group x.forced s (length p.sizes) x.chunks i is.arises there in
    (sharer_holds rule x.forced s one.«module» i one.shared).0

unspent : (name : Option (List ℕ)) (rule : Rule) (k : ℕ) (forced : Bool) (s : State) (width : ℕ) (set : List Bool) → Arises name rule k forced s width set → not (is_some name && is_in s.spent k) ≡ true
unspent None rule k forced s width set a = refl
unspent (Some name) rule k forced s width set a = ap not a.0

is_bound : (bound : Option ℕ) (n : ℕ) → is_reached bound n ≡ true → is_some bound ≡ true
is_bound None n h = absurd (false≢true h)
is_bound (Some b) n h = refl

has_form : (rule : Rule) (forced : Bool) (n : ℕ) → is_reached (bound_of rule forced) n ≡ true → (not forced || is_some rule.threshold) ≡ true
has_form rule false n h = refl
has_form rule true n h = is_bound rule.threshold n h

some_there : (i : ℕ) (list : List ChunkNo) → has i list ≡ true → 0 < length list
some_there i [] h = absurd (false≢true h)
some_there i (c ∷ list) h = omega arith

unless_forced : (forced b : Bool) → (forced ≡ false → b ≡ true) → (forced || b) ≡ true
unless_forced true b h = refl
unless_forced false b h = h refl

first_kept : (p : Plan) (s : State) (x : Candidate) → IsPlan p → IsCandidate p s x → KeepsFirst p s (split_of p s x)
first_kept p s x plan is =
    let rule = rule_at p x.cache_group in
    let list = map chunk_no (places x.chunks) in
    let lends = lends_one p s x plan is in
    record {
      group = and_from _ _ (lt-ltb x.cache_group (length p.rules) is.known)
          (and_from _ _ (unspent rule.name rule x.cache_group x.forced s (length p.sizes) x.chunks is.arises) (has_form rule x.forced x.size is.large));
      selection = and_from _ _ (lt-ltb 0 (length list) (some_there lends.chunk list (has_places x.chunks lends.chunk ∙ lends.among)))
          (all_places (λ i. is_open (chunk_at s i) && is_selected rule.select s i) (is_in x.chunks) (range_with_len 0 (length x.chunks)) (λ i t.
          let parts = and_parts (is_open (chunk_at s i)) _ (shares_at p s x i is t) in
          and_from _ _ parts.0 (and_parts (is_selected rule.select s i) _ parts.1).0));
      requests = unless_forced x.forced _ (λ limited. all_places (λ i. not (is_full rule s i)) (is_in x.chunks) (range_with_len 0 (length x.chunks)) (λ i t.
          let parts = and_parts (is_open (chunk_at s i)) _ (shares_at p s x i is t) in
          elim (or_cases x.forced (not (is_full rule s i)) (and_parts (is_selected rule.select s i) _ parts.1).1) [
            | inl f ↦ absurd (false≢true (sym limited ∙ f))
            | inr n ↦ n
          ]));
    }

-- ---- the other rules

same_itself : {X : Type 0} (eq : X → X → Bool) (xs : List X) → ((x : X) → eq x x ≡ true) → pointwise eq xs xs ≡ true
same_itself eq [] h = refl
same_itself eq (x ∷ xs) h = and_from (eq x x) _ (h x) (same_itself eq xs h)

comes_if : (name : Option (List ℕ)) (rule : Rule) (k : ℕ) (forced : Bool) (s : State) (width : ℕ) (set : List Bool) → Arises name rule k forced s width set → comes_by name rule forced s width set ≡ true
comes_if None rule k forced s width set (m, lt, tested, same) =
    some_at (λ j. meets rule j && same_row (sharers rule forced s j) set) width m lt (and_from (meets rule m) _ tested (same_row-refl _ _ same))
comes_if (Some name) rule k forced s width set (spent, same) = same_row-refl _ _ same

claim_kept : (p : Plan) (s : State) (x : Candidate) → IsCandidate p s x → KeepsClaim p s (split_of p s x)
claim_kept p s x is =
    let rule = rule_at p x.cache_group in
    let own = claims p s x is in
    record {
      sharing = and_from _ _ (ap (λ c. comes_from rule x.forced s (length p.sizes) c.chunks) own ∙ comes_if rule.name rule x.cache_group x.forced s (length p.sizes) x.chunks is.arises)
          (and_from _ _ (ap (λ c. same_chunks (map chunk_no (places c.chunks)) (map chunk_no (places x.chunks))) own ∙ same_itself (λ (c d : ChunkNo). c.0 == d.0) (map chunk_no (places x.chunks)) (λ (c : ChunkNo). eq-eqb c.0 c.0 refl))
          (ap (λ c. nat_le rule.min_chunks (count c.chunks)) own ∙ le-leb _ _ is.enough));
      modules = ap (λ c. same_modules (map module_no (places c.modules)) (map module_no (places x.modules))) own ∙ same_itself (λ (c d : ModuleNo). c.0 == d.0) (map module_no (places x.modules)) (λ (c : ModuleNo). eq-eqb c.0 c.0 refl);
      size = ap (λ c. is_reached (bound_of rule x.forced) c.size) own ∙ is.large;
    }

beq_itself : (b : Bool) → beq b b ≡ true
beq_itself true = refl
beq_itself false = refl

made_kept : (p : Plan) (s : State) (x : Candidate) → IsCandidate p s x → (is_some (reused_of p s x) || nat_lt (length s.chunks) 8192) ≡ true → keeps_made p s (split_of p s x) ≡ true
made_kept p s x is room =
    let y = split_of p s x in
    ap (λ c. ((made_of s (reused_of p s c)).0 == y.made.0) && (beq (is_some (reused_of p s c)) y.reused && (is_some (reused_of p s c) || nat_lt (length s.chunks) 8192))) (claims p s x is)
    ∙ and_from _ _ (eq-eqb _ _ refl) (and_from _ _ (beq_itself (is_some (reused_of p s x))) room)

pub none_broken : (p : Plan) (s : State) (x : Candidate) → IsPlan p → IsCandidate p s x → (is_some (reused_of p s x) || nat_lt (length s.chunks) 8192) ≡ true → broken p s (split_of p s x) ≡ None
none_broken p s x plan is room = breaks_none p s (split_of p s x) (first_kept p s x plan is) (claim_kept p s x is) (made_kept p s x is room)

-- ---- numbers of chunks are given out and never taken back

taken_len : (p : Plan) (s : State) (x : Candidate) (n : ℕ) → length (with_taken p x n s).chunks ≡ length s.chunks
taken_len p s x n =
    let moved = with_joined x.chunks n (with_moved x.modules x.chunks n s) in
    ap length (spent_chunks (rule_at p x.cache_group).name x.cache_group (with_closed n moved)) ∙ length-set moved.chunks n _ ∙ moved-len s x.modules x.chunks n

after_len : (p : Plan) (s : State) (x : Candidate) (o : Option ℕ) → length s.chunks ≤ length (after_at p s x o).chunks
after_len p s x (Some n) = omega (arith, taken_len p s x n)
after_len p s x None =
    let name = (rule_at p x.cache_group).name in
    omega (arith, taken_len p (with_new name s) x (length s.chunks), length-append s.chunks (new_chunk name s.width ∷ []))

pub made_len : (p : Plan) (s : State) (x : Candidate) → length (after_at p s x None).chunks ≡ length s.chunks + 1
made_len p s x =
    let name = (rule_at p x.cache_group).name in
    taken_len p (with_new name s) x (length s.chunks) ∙ length-append s.chunks (new_chunk name s.width ∷ [])

pub steps_len : (p : Plan) (s t : State) (ys : List Split) → AreSteps p s ys t → length s.chunks ≤ length t.chunks
steps_len p s t [] e = omega (arith, ap (λ r. length r.chunks) e)
steps_len p s t (y ∷ ys) (x, best, is, rest) = omega (arith, after_len p s x (reused_of p s x), steps_len p (after_split p s x) t ys rest)

pub has_room : (o : Option ℕ) (n : ℕ) → (o ≡ None → n < 8192) → (is_some o || nat_lt n 8192) ≡ true
has_room None n h = lt-ltb n 8192 (h refl)
has_room (Some i) n h = refl

-- the splits of the definition are accepted, where there are numbers enough
pub accepted-steps : (p : Plan) (s t : State) (ys : List Split) → IsPlan p → AreSteps p s ys t → length t.chunks ≤ 8192 → AreAccepted p s ys t
accepted-steps p s t [] plan e few = e
accepted-steps p s t (y ∷ ys) plan (x, best, is, rest) few =
    let more = steps_len p (after_split p s x) t ys rest in
    let room = has_room (reused_of p s x) (length s.chunks) (λ none. omega (arith, more, few, ap (λ o. length (after_at p s x o).chunks) none, made_len p s x)) in
    let P : State → Type 0 = λ r. AreAccepted p r ys t in (
      ap (broken p s) is ∙ none_broken p s x plan best.there room,
      subst P (sym (ap (λ z. after_split p s (claimed p s z)) is ∙ ap (after_split p s) (claims p s x best.there))) (accepted-steps p (after_split p s x) t ys plan rest few),
    )
