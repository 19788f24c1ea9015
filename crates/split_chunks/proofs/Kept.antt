-- The rules that a split keeps, one after the other.
use Rattle.std.proofs.Common.{◌≡◌, ℕ, ◌&&◌, ◌||◌, ◌==◌, Bool, true, false, not, None, Some, nat_lt, List, [], ◌∷◌, length, if◌then◌else◌, refl, sym, ap, ◌∙◌, inl, inr, arith}
use Rattle.std.specs.List.{list_all}
use Rattle.std.proofs.lemmas.Bool.{cases_lt, and_parts, lt-ltb, false≢true}
use Rattle.std.proofs.lemmas.List.{get_or_past}
use Rattle.std.proofs.lemmas.List.FromFn.{get_or-map-range_with_len, length-map-range_with_len}
use Rattle.pack_util.specs.declared.number.ChunkNo.{ChunkNo}
use Rattle.chunk_graph.specs.declared.split.Split.{Split}
use Rattle.chunk_graph.specs.Chunks.{State, no_chunk, chunk_at, is_in, is_open}
use Rattle.split_plan.specs.declared.rule.Rule.{Rule}
use Rattle.split_plan.specs.Plan.{Plan}
use Rattle.split_plan.specs.Shares.{allowed_row, is_full, is_selected, may_share}
use Rattle.split_chunks.specs.declared.split_rule.SplitRule.TheVariants.{Group, Selection, Requests, Sharing, Modules, Size, Made}
use Rattle.split_chunks.specs.Rules.{broken, keeps_group, keeps_selection, keeps_requests, keeps_sharing, keeps_modules, keeps_size, keeps_made}
use Rattle.split_chunks.specs.inner.Kept.{KeepsFirst, KeepsClaim}

-- ---- the first rule that fails

passes : {X : Type 0} (b : Bool) (x y : X) → b ≡ true → (if not b then x else y) ≡ y
passes true x y e = refl
passes false x y e = absurd (false≢true e)

fails : {X : Type 0} (b : Bool) (x y : X) → b ≡ false → (if not b then x else y) ≡ x
fails false x y e = refl
fails true x y e = absurd (false≢true (sym e))

pub breaks_group : (p : Plan) (s : State) (y : Split) → keeps_group p s y ≡ false → broken p s y ≡ Some Group
breaks_group p s y e = fails (keeps_group p s y) _ _ e

pub breaks_selection : (p : Plan) (s : State) (y : Split) → keeps_group p s y ≡ true → keeps_selection p s y ≡ false → broken p s y ≡ Some Selection
breaks_selection p s y g e = passes (keeps_group p s y) _ _ g ∙ fails (keeps_selection p s y) _ _ e

pub breaks_requests : (p : Plan) (s : State) (y : Split) → keeps_group p s y ≡ true → keeps_selection p s y ≡ true → keeps_requests p s y ≡ false → broken p s y ≡ Some Requests
breaks_requests p s y g c e = passes (keeps_group p s y) _ _ g ∙ passes (keeps_selection p s y) _ _ c ∙ fails (keeps_requests p s y) _ _ e

first : (p : Plan) (s : State) (y : Split) → KeepsFirst p s y → broken p s y
    ≡ (if not (keeps_sharing p s y) then Some Sharing else (if not (keeps_modules p s y) then Some Modules else
    (if not (keeps_size p s y) then Some Size else (if not (keeps_made p s y) then Some Made else None))))
first p s y k = passes (keeps_group p s y) _ _ k.group ∙ passes (keeps_selection p s y) _ _ k.selection ∙ passes (keeps_requests p s y) _ _ k.requests

pub breaks_sharing : (p : Plan) (s : State) (y : Split) → KeepsFirst p s y → keeps_sharing p s y ≡ false → broken p s y ≡ Some Sharing
breaks_sharing p s y k e = first p s y k ∙ fails (keeps_sharing p s y) _ _ e

pub breaks_modules : (p : Plan) (s : State) (y : Split) → KeepsFirst p s y → keeps_sharing p s y ≡ true → keeps_modules p s y ≡ false → broken p s y ≡ Some Modules
breaks_modules p s y k c e = first p s y k ∙ passes (keeps_sharing p s y) _ _ c ∙ fails (keeps_modules p s y) _ _ e

pub breaks_size : (p : Plan) (s : State) (y : Split) → KeepsFirst p s y → keeps_sharing p s y ≡ true → keeps_modules p s y ≡ true → keeps_size p s y ≡ false → broken p s y ≡ Some Size
breaks_size p s y k c m e = first p s y k ∙ passes (keeps_sharing p s y) _ _ c ∙ passes (keeps_modules p s y) _ _ m ∙ fails (keeps_size p s y) _ _ e

last : (p : Plan) (s : State) (y : Split) → KeepsFirst p s y → KeepsClaim p s y → broken p s y ≡ (if not (keeps_made p s y) then Some Made else None)
last p s y k c = first p s y k ∙ passes (keeps_sharing p s y) _ _ c.sharing ∙ passes (keeps_modules p s y) _ _ c.modules ∙ passes (keeps_size p s y) _ _ c.size

pub breaks_made : (p : Plan) (s : State) (y : Split) → KeepsFirst p s y → KeepsClaim p s y → keeps_made p s y ≡ false → broken p s y ≡ Some Made
breaks_made p s y k c e = last p s y k c ∙ fails (keeps_made p s y) _ _ e

pub breaks_none : (p : Plan) (s : State) (y : Split) → KeepsFirst p s y → KeepsClaim p s y → keeps_made p s y ≡ true → broken p s y ≡ None
breaks_none p s y k c e = last p s y k c ∙ passes (keeps_made p s y) _ _ e

-- ---- the chunks from which a cache group may take modules

pub allowed-at : (rule : Rule) (forced : Bool) (s : State) (i : ℕ) → is_in (allowed_row rule forced s) i ≡ may_share rule forced s i
allowed-at rule forced s i = elim (cases_lt i (length s.chunks)) [
  | inl lt ↦ get_or-map-range_with_len (may_share rule forced s) 0 (length s.chunks) i i false lt (omega arith)
  | inr ge ↦
      let size = length-map-range_with_len (may_share rule forced s) 0 (length s.chunks) in
      get_or_past (allowed_row rule forced s) i false (omega arith)
      ∙ sym (ap (λ c. is_open c && (is_selected rule.select s i && (forced || not (is_full rule s i)))) (get_or_past s.chunks i no_chunk ge))
]

pub all_alike : (P Q : ℕ → Bool) (list : List ChunkNo) → ((i : ℕ) → P i ≡ Q i) → list_all (λ c. P c.0) list ≡ list_all (λ c. Q c.0) list
all_alike P Q [] h = refl
all_alike P Q (c ∷ list) h = ap (λ b. b && list_all (λ d. P d.0) list) (h c.0) ∙ ap (λ b. Q c.0 && b) (all_alike P Q list h)

and_true : (a b : Bool) → (a && (b && true)) ≡ (a && b)
and_true true true = refl
and_true true false = refl
and_true false b = refl

pub selection-row : (rule : Rule) (s : State) (row : List Bool) (list : List ChunkNo) → row ≡ allowed_row rule true s
    → list_all (λ c. is_in row c.0) list ≡ list_all (λ c. is_open (chunk_at s c.0) && is_selected rule.select s c.0) list
selection-row rule s row list is =
    ap (λ r. list_all (λ c. is_in r c.0) list) is
    ∙ all_alike (is_in (allowed_row rule true s)) (λ i. is_open (chunk_at s i) && is_selected rule.select s i) list
    (λ i. allowed-at rule true s i ∙ and_true (is_open (chunk_at s i)) (is_selected rule.select s i))

not_full : (a b n : Bool) → (a && b) ≡ true → (a && (b && (false || n))) ≡ n
not_full true true n e = refl
not_full true false n e = absurd (false≢true e)
not_full false b n e = absurd (false≢true e)

requests_are : (rule : Rule) (s : State) (list : List ChunkNo) → list_all (λ c. is_open (chunk_at s c.0) && is_selected rule.select s c.0) list ≡ true
    → list_all (λ c. may_share rule false s c.0) list ≡ list_all (λ c. not (is_full rule s c.0)) list
requests_are rule s [] h = refl
requests_are rule s (c ∷ list) h =
    let parts = and_parts (is_open (chunk_at s c.0) && is_selected rule.select s c.0) _ h in
    ap (λ b. b && list_all (λ d. may_share rule false s d.0) list) (not_full (is_open (chunk_at s c.0)) (is_selected rule.select s c.0) (not (is_full rule s c.0)) parts.0)
    ∙ ap (λ b. not (is_full rule s c.0) && b) (requests_are rule s list parts.1)

pub requests-row : (rule : Rule) (s : State) (row : List Bool) (list : List ChunkNo) → row ≡ allowed_row rule false s
    → list_all (λ c. is_open (chunk_at s c.0) && is_selected rule.select s c.0) list ≡ true → list_all (λ c. is_in row c.0) list ≡ list_all (λ c. not (is_full rule s c.0)) list
requests-row rule s row list is selected =
    ap (λ r. list_all (λ c. is_in r c.0) list) is ∙ all_alike (is_in (allowed_row rule false s)) (may_share rule false s) list (λ i. allowed-at rule false s i)
    ∙ requests_are rule s list selected

pub some_first : (list : List ChunkNo) (b : Bool) → false ≡ (length list == 0) → b ≡ (nat_lt 0 (length list) && b)
some_first [] b e = absurd (false≢true e)
some_first (c ∷ list) b e = sym (ap (λ t. t && b) (lt-ltb 0 (length (c ∷ list)) (omega arith)))
