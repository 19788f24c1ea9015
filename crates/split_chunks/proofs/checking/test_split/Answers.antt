use Rattle.std.proofs.Common.{◌≡◌, Option, Some, length, sym, ap, subst, ◌∙◌}
use Rattle.std.specs.Prelude.{MatchOption, MatchResult, Result}
use Rattle.std.proofs.lemmas.List.FromFn.{length-map-range_with_len}
use Rattle.chunk_graph.specs.Chunks.{has}
use Rattle.split_plan.specs.declared.candidate.Candidate.{Candidate}
use Rattle.split_plan.specs.Candidates.{IsCandidate}
use Rattle.split_chunks.specs.declared.split_rule.SplitRule.{SplitRule}
use Rattle.split_chunks.specs.Rules.{broken, claimed}
use Rattle.split_chunks.specs.inner.Kept.{KeepsFirst, KeepsClaim}
use Rattle.split_chunks.proofs.Claimed.{candidate-from, none_of}
use Rattle.split_chunks.proofs.checking.test_split.Goals as goal

pub keeps_made-requires : goal.keeps_made-requires
keeps_made-requires c =
    let p = c.args.plan.now in
    let s = c.args.state.now in
    let y = c.args.split.now in
    let P : Result Candidate SplitRule → Type 0 = λ r. MatchResult r (λ x. (x ≡ claimed p s y) × KeepsClaim p s y) (λ rule. broken p s y ≡ Some rule) in
    let is = subst P c.in-Ok.is c.in_ok-x.ensures in
    ap (λ x. length x.chunks) is.0 ∙ length-map-range_with_len (λ i. has i y.chunks) 0 (length s.chunks)

pub take-requires-clause-candidate : goal.take-requires-clause-candidate
take-requires-clause-candidate c =
    let p = c.args.plan.now in
    let s = c.args.state.now in
    let y = c.args.split.now in
    let P : Result Candidate SplitRule → Type 0 = λ r. MatchResult r (λ x. (x ≡ claimed p s y) × KeepsClaim p s y) (λ rule. broken p s y ≡ Some rule) in
    let is = subst P c.in-Ok.is c.in_ok-x.ensures in
    let O : Option SplitRule → Type 0 = λ o. MatchOption o (KeepsFirst p s y) (λ rule. broken p s y ≡ Some rule) in
    let first = subst O (none_of c.in_ok-rule.field-0 c.in_default.not-Some) c.in_ok-rule.ensures in
    let Q : Candidate → Type 0 = λ x. IsCandidate p s x in
    subst Q (sym is.0) (candidate-from p s y first is.1)
