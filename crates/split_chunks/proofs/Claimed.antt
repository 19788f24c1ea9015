-- A split that keeps the rules is that of a candidate.
use Rattle.std.proofs.Common.{◌≡◌, ℕ, ◌+◌, ◌<◌, ◌&&◌, zero, suc, Bool, true, false, not, Option, None, Some, is_some, List, [], ◌∷◌, ◌++◌, length, if◌then◌else◌, refl, sym, ap, ◌∙◌, inl, inr, arith}
use Rattle.std.specs.List.{list_any, range_with_len}
use Rattle.std.proofs.lemmas.Bool.{and_parts, or_cases, not-true, leb-true, ltb-true, false≢true}
use Rattle.chunk_graph.specs.declared.split.Split.{Split}
use Rattle.chunk_graph.specs.Chunks.{State, is_in}
use Rattle.chunk_graph.specs.Moves.{same_row}
use Rattle.chunk_graph.proofs.Rows.{from_same_row}
use Rattle.split_plan.specs.declared.rule.Rule.{Rule}
use Rattle.split_plan.specs.Plan.{Plan, rule_at}
use Rattle.split_plan.specs.Candidates.{Arises, IsCandidate, comes_by}
use Rattle.split_plan.specs.Shares.{sharers, meets, named_chunks}
use Rattle.split_plan.specs.Step.{after_split}
use Rattle.split_chunks.specs.Accepted.{AreAccepted}
use Rattle.split_chunks.specs.Rules.{broken, claimed, keeps_group, keeps_selection, keeps_requests, keeps_sharing, keeps_modules, keeps_size, keeps_made}
use Rattle.split_chunks.specs.declared.split_rule.SplitRule.{SplitRule}
use Rattle.split_chunks.specs.inner.Kept.{KeepsFirst, KeepsClaim}

-- a number of the range that passes
some_of : (f : ℕ → Bool) (a n : ℕ) → list_any f (range_with_len a n) ≡ true → (m : ℕ) × (m < a + n) × (f m ≡ true)
some_of f a zero h = absurd (false≢true h)
some_of f a (suc n) h = elim (or_cases (f a) (list_any f (range_with_len (a + 1) n)) h) [
  | inl e ↦ (a, omega arith, e)
  | inr r ↦ let q = some_of f (a + 1) n r in let lt = q.1 in (q.0, omega arith, q.2)
]

arises_from : (name : Option (List ℕ)) (rule : Rule) (k : ℕ) (forced : Bool) (s : State) (width : ℕ) (set : List Bool) → not (is_some name && is_in s.spent k) ≡ true
    → comes_by name rule forced s width set ≡ true → Arises name rule k forced s width set
arises_from None rule k forced s width set spent h =
    let q = some_of (λ m. meets rule m && same_row (sharers rule forced s m) set) 0 width h in
    let parts = and_parts (meets rule q.0) (same_row (sharers rule forced s q.0) set) q.2 in
    let lt = q.1 in (q.0, omega arith, parts.0, from_same_row (sharers rule forced s q.0) set parts.1)
arises_from (Some name) rule k forced s width set spent h = (not-true (is_in s.spent k) spent, from_same_row (named_chunks rule forced s width) set h)

pub candidate-from : (p : Plan) (s : State) (y : Split) → KeepsFirst p s y → KeepsClaim p s y → IsCandidate p s (claimed p s y)
candidate-from p s y k c =
    let group = and_parts _ _ k.group in
    let sharing = and_parts _ _ c.sharing in
    record {
      known = ltb-true y.cache_group (length p.rules) group.0;
      arises = arises_from (rule_at p y.cache_group).name (rule_at p y.cache_group) y.cache_group y.forced s (length p.sizes) (claimed p s y).chunks (and_parts _ _ group.1).0 sharing.0;
      modules = refl;
      size = refl;
      enough = leb-true _ _ (and_parts _ _ sharing.1).1;
      large = c.size;
    }

kept : (b : Bool) (rule : SplitRule) (rest : Option SplitRule) → (if not b then Some rule else rest) ≡ None → (b ≡ true) × (rest ≡ None)
kept true rule rest e = (refl, e)
kept false rule rest e = absurd (false≢true (sym (ap is_some e)))

pub kept_all : (p : Plan) (s : State) (y : Split) → broken p s y ≡ None → KeepsFirst p s y × KeepsClaim p s y × (keeps_made p s y ≡ true)
kept_all p s y e =
    let group = kept (keeps_group p s y) _ _ e in
    let selection = kept (keeps_selection p s y) _ _ group.1 in
    let requests = kept (keeps_requests p s y) _ _ selection.1 in
    let sharing = kept (keeps_sharing p s y) _ _ requests.1 in
    let modules = kept (keeps_modules p s y) _ _ sharing.1 in
    let size = kept (keeps_size p s y) _ _ modules.1 in (
      record { group = group.0; selection = selection.0; requests = requests.0 },
      record { sharing = sharing.0; modules = modules.0; size = size.0 },
      (kept (keeps_made p s y) _ _ size.1).0,
    )

-- a split that breaks no rule is that of a candidate
pub candidate-kept : (p : Plan) (s : State) (y : Split) → broken p s y ≡ None → IsCandidate p s (claimed p s y)
candidate-kept p s y e = let all = kept_all p s y e in candidate-from p s y all.0 all.1

-- ---- lists that are accepted

pub accepted-more : (p : Plan) (s t u : State) (ys : List Split) (y : Split) → AreAccepted p s ys t → broken p t y ≡ None → u ≡ after_split p t (claimed p t y) → AreAccepted p s (ys ++ y ∷ []) u
accepted-more p s t u [] y e kept next = (
  ap (λ r. broken p r y) (sym e) ∙ kept,
  next ∙ ap (λ r. after_split p r (claimed p r y)) e,
)
accepted-more p s t u (z ∷ ys) y (k, rest) kept next = (k, accepted-more p (after_split p s (claimed p s z)) t u ys y rest kept next)

pub none_of : {X : Type 0} (o : Option X) → ((x : X) → o ≡ Some x → ⊥) → o ≡ None
none_of None never = refl
none_of (Some x) never = absurd (never x refl)
