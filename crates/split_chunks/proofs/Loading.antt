-- What groups load, split by split.
use Rattle.std.proofs.Common.{◌≡◌, Bool, true, not, List, [], ◌∷◌, ◌++◌, is_some, length, sym, ap, ◌∙◌}
use Rattle.std.proofs.lemmas.Bool.{and_parts, not-true}
use Rattle.std.proofs.lemmas.List.Folds.{list_all-append}
use Rattle.chunk_graph.specs.declared.split.Split.{Split}
use Rattle.chunk_graph.specs.Chunks.{State, IsShaped, has_module}
use Rattle.split_plan.specs.declared.candidate.Candidate.{Candidate}
use Rattle.split_plan.specs.Plan.{Plan, rule_at}
use Rattle.split_plan.specs.Candidates.{IsCandidate}
use Rattle.split_plan.specs.Step.{after_split}
use Rattle.split_plan.proofs.Claimed.{unnamed_from}
use Rattle.split_plan.proofs.Keeping.{kept-split, gained-split}
use Rattle.split_chunks.specs.Loads.{KeepsLoads, are_unnamed}

pub loads-none : (p : Plan) (s : State) → KeepsLoads p s [] s
loads-none p s = record { lost = λ g m h. h; gained = λ e g m h. h }

pub loads-more : (p : Plan) (s t u : State) (ys : List Split) (x : Candidate) (y : Split) → KeepsLoads p s ys t → IsShaped t → t.width ≡ length p.sizes → IsCandidate p t x
    → y.cache_group ≡ x.cache_group → u ≡ after_split p t x → KeepsLoads p s (ys ++ y ∷ []) u
loads-more p s t u ys x y loads shaped width is group next = record {
  lost = λ g m h. ap (λ r. has_module r g m) next ∙ kept-split p t x g m shaped width is (loads.lost g m h);
  gained = λ all g m h.
      let f : Split → Bool = λ z. not (is_some (rule_at p z.cache_group).name) in
      let parts = and_parts (are_unnamed p ys) (are_unnamed p (y ∷ [])) (sym (list_all-append f ys (y ∷ [])) ∙ all) in
      let unnamed = unnamed_from (rule_at p x.cache_group).name (ap (λ k. is_some (rule_at p k).name) (sym group) ∙ not-true _ (and_parts (f y) true parts.1).0) in
      loads.gained parts.0 g m (gained-split p t x g m shaped width is unnamed (sym (ap (λ r. has_module r g m) next) ∙ h));
}
