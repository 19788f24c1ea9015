use Rattle.std.proofs.Common.{◌<◌, length, ℕ, List, subst, sym, ap, ◌∙◌, inl, inr}
use Rattle.chunk_graph.specs.declared.split.Split.{Split}
use Rattle.chunk_graph.specs.Chunks.{State}
use Rattle.split_plan.specs.declared.candidate.Candidate.{Candidate}
use Rattle.split_plan.specs.Order.{IsGreatest}
use Rattle.split_plan.specs.Plan.{Plan}
use Rattle.split_plan.specs.Step.{AreSteps, IsBest, pairs, reused_of}
use Rattle.split_plan.proofs.Falling.{split-falls}
use Rattle.split_chunks.specs.Loads.{KeepsLoads}
use Rattle.split_chunks.proofs.Loading.{loads-more}
use Rattle.split_chunks.proofs.Passing.{accepted-steps}
use Rattle.split_chunks.proofs.Takes.{best-from, steps-more, width-after}
use Rattle.split_chunks.proofs.splitting.split_by.Goals as goal

pub returns-in-Err-clause-err : goal.returns-in-Err-clause-err
returns-in-Err-clause-err c =
    let p = c.args.plan.now in
    let s = c.loop-splits.state in
    let x = c.index.result.now in
    let G : Plan → Type 0 = λ q. IsGreatest q c.deref.result.now c.in-Some.place in
    let L : List Candidate → Type 0 = λ list. IsGreatest p list c.in-Some.place in
    let best = best-from p s c.in_ok-found.found.items c.in-Some.place x c.in_ok-found.ensures (subst L c.deref.ensures.value (subst G (sym c.requires.plan) c.in-Some.ensures)) c.index.ensures in
    let S : State → Type 0 = λ t. AreSteps p c.args.state.now c.loop-splits.splits.items t in
    let B : State → Type 0 = λ t. IsBest p t x in
    elim c.in-Err.ensures.err [
      | inl none ↦ inl none
      | inr (limit, makes, all, same) ↦ inr (
        limit,
        record {
          splits = c.loop-splits.splits.items;
          steps = subst S (sym same) c.loop-splits.invariant.steps;
          next = x;
          best = subst B (sym same) best;
          makes = ap (λ t. reused_of p t x) same ∙ makes;
          all = ap (λ t. length t.chunks) same ∙ all;
        },
      )
    ]

pub loop-splits-smaller : goal.loop-splits-smaller
loop-splits-smaller c =
    let p = c.args.plan.now in
    let s = c.loop-splits.state in
    let x = c.index.result.now in
    let G : Plan → Type 0 = λ q. IsGreatest q c.deref.result.now c.in-Some.place in
    let L : List Candidate → Type 0 = λ list. IsGreatest p list c.in-Some.place in
    let best = best-from p s c.in_ok-found.found.items c.in-Some.place x c.in_ok-found.ensures (subst L c.deref.ensures.value (subst G (sym c.requires.plan) c.in-Some.ensures)) c.index.ensures in
    let P : ℕ → Type 0 = λ n. n < pairs s in
    subst P (sym (ap pairs c.in-Ok.ensures.ok.1)) (split-falls p s x c.width-width.ensures.plan c.count-sound.ensures.sound.shaped c.loop-splits.invariant.width best.there)

pub loop-splits-preserved : goal.loop-splits-preserved
loop-splits-preserved c =
    let p = c.args.plan.now in
    let s = c.loop-splits.state in
    let x = c.index.result.now in
    let G : Plan → Type 0 = λ q. IsGreatest q c.deref.result.now c.in-Some.place in
    let L : List Candidate → Type 0 = λ list. IsGreatest p list c.in-Some.place in
    let best = best-from p s c.in_ok-found.found.items c.in-Some.place x c.in_ok-found.ensures (subst L c.deref.ensures.value (subst G (sym c.requires.plan) c.in-Some.ensures)) c.index.ensures in
    let Q : List Split → Type 0 = λ list. AreSteps p c.args.state.now list c.take.new.state in
    let L : List Split → Type 0 = λ list. KeepsLoads p c.args.state.now list c.take.new.state in
    record {
      steps = subst Q (sym c.in_ok-push.ensures.items)
          (steps-more p c.args.state.now s c.take.new.state c.loop-splits.splits.items x c.in-Ok.made c.loop-splits.invariant.steps best c.in-Ok.ensures.ok.0 c.in-Ok.ensures.ok.1);
      loads = subst L (sym c.in_ok-push.ensures.items)
          (loads-more p c.args.state.now s c.take.new.state c.loop-splits.splits.items x c.in-Ok.made c.loop-splits.invariant.loads c.count-sound.ensures.sound.shaped c.loop-splits.invariant.width best.there
          (ap (λ y. y.cache_group) c.in-Ok.ensures.ok.0) c.in-Ok.ensures.ok.1);
      width = ap (λ t. t.width) c.in-Ok.ensures.ok.1 ∙ width-after p s x (reused_of p s x) ∙ c.loop-splits.invariant.width;
    }

pub returns-in-None-clause-accepted : goal.returns-in-None-clause-accepted
returns-in-None-clause-accepted c =
    accepted-steps c.args.plan.now c.args.state.now c.loop-splits.state c.loop-splits.splits.items c.width-width.ensures.plan c.loop-splits.invariant.steps c.count-sound.ensures.sound.few
