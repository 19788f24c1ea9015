use Rattle.std.proofs.Common.{◌≡◌, ◌++◌, ◌∷◌, [], List, None, take, refl, sym, ap, subst, ◌∙◌}
use Rattle.std.proofs.lemmas.List.{take_more}
use Rattle.chunk_graph.specs.declared.split.Split.{Split}
use Rattle.split_plan.specs.Step.{after_split, reused_of}
use Rattle.split_chunks.specs.Accepted.{AreAccepted}
use Rattle.split_chunks.specs.Loads.{KeepsLoads}
use Rattle.split_chunks.specs.Rules.{broken, claimed}
use Rattle.split_chunks.specs.inner.Kept.{after_test}
use Rattle.split_chunks.proofs.Claimed.{accepted-more, candidate-kept, none_of}
use Rattle.split_chunks.proofs.Loading.{loads-more}
use Rattle.split_chunks.proofs.Takes.{width-after}
use Rattle.split_chunks.proofs.checking.check_by.Goals as goal

pub loop-place-preserved : goal.loop-place-preserved
loop-place-preserved c =
    let p = c.args.plan.now in
    let t = c.loop-place.state in
    let u = c.test_split.new.state in
    let list = c.args.list.now in
    let k = c.loop-place.place in
    let y = c.index-list-place.result in
    let none = none_of c.in_ok-rule.field-0 c.in_default.not-Some in
    let kept : broken p t y ≡ None = sym c.in_ok-rule.ensures.0 ∙ none in
    let next : u ≡ after_split p t (claimed p t y) = c.in_ok-rule.ensures.1 ∙ ap (after_test p t y) none in
    let front = take_more list k y c.loop-place-test.true ∙ ap (λ z. take k list ++ z ∷ []) (sym c.index-list-place.is) in
    let P : List Split → Type 0 = λ l. AreAccepted p c.args.state.now l u in
    let L : List Split → Type 0 = λ l. KeepsLoads p c.args.state.now l u in
    record {
      accepted = subst P (sym front) (accepted-more p c.args.state.now t u (take k list) y c.loop-place.invariant.accepted kept next);
      loads = subst L (sym front) (loads-more p c.args.state.now t u (take k list) (claimed p t y) y c.loop-place.invariant.loads c.count-sound.ensures.sound.shaped c.loop-place.invariant.width
          (candidate-kept p t y kept) refl next);
      width = ap (λ r. r.width) next ∙ width-after p t (claimed p t y) (reused_of p t (claimed p t y)) ∙ c.loop-place.invariant.width;
    }
