-- The one candidate of a cache group with a name.
use Rattle.std.proofs.Common.{◌≡◌, ◌≢◌, ℕ, ◌+◌, ◌<◌, ◌≤◌, ◌&&◌, ◌||◌, zero, suc, Bool, true, false, Option, None, Some, is_some, nat_le, List, [], ◌∷◌, get_or, length, refl, sym, ap, subst, ◌∙◌, inl, inr, zero-add, add-zero, arith}
use Rattle.std.specs.List.{range_with_len, list_any, Contains}
use Rattle.std.proofs.Math.ListN.{set}
use Rattle.std.proofs.lemmas.Bool.{cases_eq, cases_lt, true≢false, and_left, false≢true}
use Rattle.std.proofs.lemmas.List.{get_or-set_same, get_or-set_other, length-set, get_or_past}
use Rattle.std.proofs.lemmas.List.FromFn.{fill_by_all}
use Rattle.std.proofs.lemmas.Simd.{get_or-zip2, length-zip2}
use Rattle.bit_rows.specs.Places.{union}
use Rattle.chunk_graph.specs.Chunks.{State, is_in, count}
use Rattle.split_plan.specs.declared.candidate.Candidate.{Candidate}
use Rattle.split_plan.specs.declared.rule.Rule.{Rule}
use Rattle.split_plan.specs.Plan.{Plan, rule_at}
use Rattle.split_plan.specs.Candidates.{Arises, Lists, goes, modules_for, size_of, bound_of}
use Rattle.split_plan.specs.Shares.{sharers, meets, is_reached, is_shared, named_chunks}
use Rattle.split_plan.specs.inner.Search.{IsOfForm, IsSearch, AreNamedRows, shared_by}
use Rattle.split_plan.proofs.Found.{told_by, share_at, enough_for}
use Rattle.split_plan.proofs.Places.{or_false, or_assoc}
use Rattle.std.proofs.lemmas.List.Elements.{All-push, Contains-push}

pub any_more : (p : ℕ → Bool) (a n : ℕ) → list_any p (range_with_len a (n + 1)) ≡ (list_any p (range_with_len a n) || p (a + n))
any_more p a zero = sym (or_false (p a)) ∙ ap p (sym (add-zero a))
any_more p a (suc n) = let e : a + 1 + n ≡ a + suc n = omega arith in let f : suc n + 1 ≡ suc (n + 1) = omega arith in
    ap (λ k. list_any p (range_with_len a k)) f ∙ ap (λ b. p a || b) (any_more p (a + 1) n ∙ ap (λ k. list_any p (range_with_len (a + 1) n) || p k) e) ∙ sym (or_assoc (p a) (list_any p (range_with_len (a + 1) n)) (p (a + suc n)))

pub any_same : (f g : ℕ → Bool) (a n : ℕ) → ((k : ℕ) → a ≤ k → k < a + n → f k ≡ g k) → list_any f (range_with_len a n) ≡ list_any g (range_with_len a n)
any_same f g a zero h = refl
any_same f g a (suc n) h = ap (λ b. b || list_any f (range_with_len (a + 1) n)) (h a (omega arith) (omega arith)) ∙ ap (λ b. g a || b) (any_same f g (a + 1) n (λ k l b. h k (omega arith) (omega arith)))

pub named_first : (s : State) (rule : Rule) (shares : List (List Bool)) (modules chunks : List Bool) → length modules ≡ length shares → length chunks ≡ length s.chunks
    → ((i : ℕ) → is_in modules i ≡ false) → ((i : ℕ) → is_in chunks i ≡ false) → AreNamedRows s rule shares 0 modules chunks
named_first s rule shares modules chunks ml cl m c = record { modules_len = ml; chunks_len = cl; below = λ k lt. absurd (omega arith); above = λ k l. m k; sharing = c }

pub named_skip : (s : State) (rule : Rule) (shares : List (List Bool)) (at : ℕ) (modules chunks : List Bool) → AreNamedRows s rule shares at modules chunks → shared_by rule shares at ≡ false
    → AreNamedRows s rule shares (at + 1) modules chunks
named_skip s rule shares at modules chunks h no_share = record {
  modules_len = h.modules_len;
  chunks_len = h.chunks_len;
  below = λ m lt. elim (cases_eq m at) [
    | inl e ↦ ap (is_in modules) e ∙ h.above at (omega arith) ∙ sym no_share ∙ ap (shared_by rule shares) (sym e)
    | inr ne ↦ h.below m (omega arith)
  ];
  above = λ m l. h.above m (omega arith);
  sharing = λ i. let p : ℕ → Bool = λ m. shared_by rule shares m && is_in (get_or shares m []) i in
      h.sharing i ∙ or_false _ ∙ ap (λ b. list_any p (range_with_len 0 at) || b) (sym (ap (λ n. p n) (zero-add at) ∙ and_left (shared_by rule shares at) (is_in (get_or shares at []) i) no_share)) ∙ sym (any_more p 0 at);
}

pub named_take : (s : State) (rule : Rule) (shares : List (List Bool)) (at : ℕ) (modules chunks share : List Bool) → AreNamedRows s rule shares at modules chunks → shared_by rule shares at ≡ true
    → at < length shares → share ≡ get_or shares at [] → length share ≡ length s.chunks → AreNamedRows s rule shares (at + 1) (set modules at true) (union chunks share)
named_take s rule shares at modules chunks share h takes lt read len =
    let within : at < length modules = omega (arith, h.modules_len) in
    let size : length (union chunks share) ≡ length chunks = length-zip2 _ chunks share (h.chunks_len ∙ sym len) in
    record {
      modules_len = length-set modules at true ∙ h.modules_len;
      chunks_len = size ∙ h.chunks_len;
      below = λ m l. elim (cases_eq m at) [
        | inl e ↦ ap (is_in (set modules at true)) e ∙ get_or-set_same modules at true false within ∙ sym takes ∙ ap (shared_by rule shares) (sym e)
        | inr ne ↦ get_or-set_other modules at m true false ne ∙ h.below m (omega arith)
      ];
      above = λ m l. let ne : m ≢ at = omega arith in get_or-set_other modules at m true false ne ∙ h.above m (omega arith);
      sharing = λ i. let p : ℕ → Bool = λ m. shared_by rule shares m && is_in (get_or shares m []) i in
          let value : p (0 + at) ≡ is_in share i = ap p (zero-add at) ∙ ap (λ b. b && is_in (get_or shares at []) i) takes ∙ ap (λ r. is_in r i) (sym read) in
          elim (cases_lt i (length chunks)) [
            | inl l ↦ get_or-zip2 _ chunks share i false false false l (omega (arith, h.chunks_len, len)) ∙ ap (λ b. b || is_in share i) (h.sharing i)
                ∙ ap (λ b. list_any p (range_with_len 0 at) || b) (sym value) ∙ sym (any_more p 0 at)
            | inr ge ↦ get_or_past (union chunks share) i false (omega arith)
                ∙ sym (any_more p 0 at ∙ ap (λ b. list_any p (range_with_len 0 at) || b) (value ∙ get_or_past share i false (omega (arith, h.chunks_len, len))) ∙ sym (or_false _) ∙ sym (h.sharing i) ∙ get_or_past chunks i false ge)
          ];
    }

-- ---- the rows are those of the definition

shared_is : (p : Plan) (s : State) (k : ℕ) (forced : Bool) (rule : Rule) (shares : List (List Bool)) (m : ℕ) → IsSearch p s k forced rule shares → m < length p.sizes → shared_by rule shares m ≡ is_shared (rule_at p k) forced s m
shared_is p s k forced rule shares m h lt =
    ap (λ row. meets rule m && nat_le rule.min_chunks (count row)) (share_at p s k forced rule shares m [] h lt)
    ∙ ap (λ r. meets r m && nat_le r.min_chunks (count (sharers (rule_at p k) forced s m))) h.rule_is

pub named_chunks_are : (p : Plan) (s : State) (k : ℕ) (forced : Bool) (rule : Rule) (shares : List (List Bool)) (modules chunks : List Bool) → IsSearch p s k forced rule shares
    → AreNamedRows s rule shares (length shares) modules chunks → chunks ≡ named_chunks (rule_at p k) forced s (length p.sizes)
named_chunks_are p s k forced rule shares modules chunks h rows =
    fill_by_all (λ i. list_any (λ m. is_shared (rule_at p k) forced s m && is_in (sharers (rule_at p k) forced s m) i) (range_with_len 0 (length p.sizes))) chunks (length s.chunks) false rows.chunks_len (λ i lt.
    rows.sharing i ∙ ap (λ n. list_any (λ m. shared_by rule shares m && is_in (get_or shares m []) i) (range_with_len 0 n)) h.len
    ∙ any_same _ _ 0 (length p.sizes) (λ m l b.
    ap (λ t. t && is_in (get_or shares m []) i) (shared_is p s k forced rule shares m h (omega arith))
    ∙ ap (λ row. is_shared (rule_at p k) forced s m && is_in row i) (share_at p s k forced rule shares m [] h (omega arith))))

goes_named : (name : Option (List ℕ)) (rule : Rule) (forced : Bool) (s : State) (set : List Bool) (m : ℕ) → is_some name ≡ true → goes name rule forced s set m ≡ is_shared rule forced s m
goes_named (Some name) rule forced s set m e = refl
goes_named None rule forced s set m e = absurd (false≢true e)

pub named_modules_are : (p : Plan) (s : State) (k : ℕ) (forced : Bool) (rule : Rule) (shares : List (List Bool)) (modules chunks set : List Bool) → IsSearch p s k forced rule shares
    → is_some rule.name ≡ true → AreNamedRows s rule shares (length shares) modules chunks → modules ≡ modules_for (rule_at p k) forced s (length p.sizes) set
named_modules_are p s k forced rule shares modules chunks set h named rows =
    fill_by_all (goes (rule_at p k).name (rule_at p k) forced s set) modules (length p.sizes) false (rows.modules_len ∙ h.len) (λ m lt.
    rows.below m (omega (arith, h.len)) ∙ shared_is p s k forced rule shares m h lt
    ∙ sym (goes_named (rule_at p k).name (rule_at p k) forced s set m (ap (λ r. is_some r.name) (sym h.rule_is) ∙ named)))

-- ---- what the search answers

from_named : (name : Option (List ℕ)) (rule : Rule) (k : ℕ) (forced : Bool) (s : State) (width : ℕ) (set : List Bool) → is_some name ≡ true → Arises name rule k forced s width set
    → (is_in s.spent k ≡ false) × (named_chunks rule forced s width ≡ set)
from_named (Some name) rule k forced s width set e a = a
from_named None rule k forced s width set e a = absurd (false≢true e)

arises_named : (name : Option (List ℕ)) (rule : Rule) (k : ℕ) (forced : Bool) (s : State) (width : ℕ) (set : List Bool) → is_some name ≡ true → is_in s.spent k ≡ false → named_chunks rule forced s width ≡ set
    → Arises name rule k forced s width set
arises_named (Some name) rule k forced s width set e spent a = (spent, a)
arises_named None rule k forced s width set e spent a = absurd (false≢true e)

-- what is known of each candidate of the form
own_chunks : (p : Plan) (s : State) (k : ℕ) (forced : Bool) (x : Candidate) → is_some (rule_at p k).name ≡ true → IsOfForm p s k forced x
    → (is_in s.spent k ≡ false) × (named_chunks (rule_at p k) forced s (length p.sizes) ≡ x.chunks)
own_chunks p s k forced x named of =
    let a = from_named (rule_at p x.cache_group).name (rule_at p x.cache_group) x.cache_group x.forced s (length p.sizes) x.chunks (ap (λ j. is_some (rule_at p j).name) of.group ∙ named) of.is.arises in (
      ap (is_in s.spent) (sym of.group) ∙ a.0,
      ap (λ b. named_chunks (rule_at p k) b s (length p.sizes)) (sym of.form) ∙ ap (λ j. named_chunks (rule_at p j) x.forced s (length p.sizes)) (sym of.group) ∙ a.1,
    )

pub lists_none : {X : Type 0} (P : X → Type 0) → ((x : X) → ¬ (P x)) → Lists P []
lists_none P never = record { each = λ i d lt. absurd (omega arith); whole = λ x f. absurd (never x f); once = λ i j d lt l. absurd (omega arith) }

pub lists_one : {X : Type 0} (P : X → Type 0) (x : X) → P x → ((y : X) → P y → y ≡ x) → Lists P (x ∷ [])
lists_one {X} P x own same = record {
  each = All-push P [] x (λ i d lt. absurd (omega arith)) own;
  whole = λ y f. (let R : X → Type 0 = λ z. Contains (x ∷ []) z in subst R (sym (same y f)) (Contains-push [] x));
  once = λ i j d lt l. absurd (omega arith);
}

pub exit_spent : (p : Plan) (s : State) (k : ℕ) (forced : Bool) (rule : Rule) (shares : List (List Bool)) → IsSearch p s k forced rule shares → is_some rule.name ≡ true → is_in s.spent k ≡ true → Lists (IsOfForm p s k forced) []
exit_spent p s k forced rule shares h named spent = lists_none (IsOfForm p s k forced) (λ x of.
    true≢false (sym spent ∙ (own_chunks p s k forced x (ap (λ r. is_some r.name) (sym h.rule_is) ∙ named) of).0))

pub exit_few_named : (p : Plan) (s : State) (k : ℕ) (forced : Bool) (rule : Rule) (shares : List (List Bool)) (modules chunks : List Bool) → IsSearch p s k forced rule shares → is_some rule.name ≡ true
    → AreNamedRows s rule shares (length shares) modules chunks → count chunks < rule.min_chunks → Lists (IsOfForm p s k forced) []
exit_few_named p s k forced rule shares modules chunks h named rows few = lists_none (IsOfForm p s k forced) (λ x of.
    let e : chunks ≡ x.chunks = named_chunks_are p s k forced rule shares modules chunks h rows ∙ (own_chunks p s k forced x (ap (λ r. is_some r.name) (sym h.rule_is) ∙ named) of).1 in
    omega (arith, enough_for p s k forced x of, ap count e, ap (λ r. r.min_chunks) h.rule_is))

pub exit_small_named : (p : Plan) (s : State) (k : ℕ) (forced : Bool) (rule : Rule) (shares : List (List Bool)) (modules chunks : List Bool) (size : ℕ) → IsSearch p s k forced rule shares → is_some rule.name ≡ true
    → AreNamedRows s rule shares (length shares) modules chunks → size ≡ size_of p.sizes modules → is_reached (bound_of rule forced) size ≡ false → Lists (IsOfForm p s k forced) []
exit_small_named p s k forced rule shares modules chunks size h named rows size_is small = lists_none (IsOfForm p s k forced) (λ x of.
    let own : x.modules ≡ modules_for (rule_at p k) forced s (length p.sizes) x.chunks =
    of.is.modules ∙ ap (λ j. modules_for (rule_at p j) x.forced s (length p.sizes) x.chunks) of.group ∙ ap (λ b. modules_for (rule_at p k) b s (length p.sizes) x.chunks) of.form in
    let z : size ≡ x.size = size_is ∙ ap (size_of p.sizes) (named_modules_are p s k forced rule shares modules chunks x.chunks h named rows ∙ sym own) ∙ sym of.is.size in
    let large : is_reached (bound_of (rule_at p k) forced) size ≡ true =
    ap (λ n. is_reached (bound_of (rule_at p k) forced) n) z ∙ ap (λ b. is_reached (bound_of (rule_at p k) b) x.size) (sym of.form)
    ∙ ap (λ j. is_reached (bound_of (rule_at p j) x.forced) x.size) (sym of.group) ∙ of.is.large in
    true≢false (sym large ∙ ap (λ r. is_reached (bound_of r forced) size) (sym h.rule_is) ∙ small))

pub exit_named : (p : Plan) (s : State) (k : ℕ) (forced : Bool) (rule : Rule) (shares : List (List Bool)) (modules chunks : List Bool) (size : ℕ) → IsSearch p s k forced rule shares → is_some rule.name ≡ true
    → AreNamedRows s rule shares (length shares) modules chunks → is_in s.spent k ≡ false → rule.min_chunks ≤ count chunks → size ≡ size_of p.sizes modules → is_reached (bound_of rule forced) size ≡ true
    → Lists (IsOfForm p s k forced) (record { cache_group = k; forced = forced; chunks = chunks; modules = modules; size = size } ∷ [])
exit_named p s k forced rule shares modules chunks size h named rows spent enough size_is large =
    let name = ap (λ r. is_some r.name) (sym h.rule_is) ∙ named in
    let all = named_chunks_are p s k forced rule shares modules chunks h rows in
    let x : Candidate = record { cache_group = k; forced = forced; chunks = chunks; modules = modules; size = size } in
    let of : IsOfForm p s k forced x = record {
      is = record {
        known = h.known;
        arises = arises_named (rule_at p k).name (rule_at p k) k forced s (length p.sizes) chunks name spent (sym all);
        modules = named_modules_are p s k forced rule shares modules chunks chunks h named rows;
        size = size_is;
        enough = omega (arith, enough, ap (λ r. r.min_chunks) h.rule_is);
        large = ap (λ r. is_reached (bound_of r forced) size) (sym h.rule_is) ∙ large;
      };
      group = refl;
      form = refl;
    } in
    lists_one (IsOfForm p s k forced) x of (λ y f. told_by p s y x f.is of.is f.group f.form (sym (own_chunks p s k forced y name f).1 ∙ sym all))
