use Rattle.std.proofs.Common.{rules, inr, ◌≡◌, [], ◌∷◌, ◌++◌, map, length, ap, sym, subst, ◌∙◌, length-append, List, ◌+◌}
use Rattle.std.proofs.lemmas.List.{map-append}
use Rattle.make_core.specs.Core.{IsFirstRefused, IsSound, start}
use Rattle.make_core.specs.declared.event.Event.{Event}
use Rattle.make_core.specs.declared.run_end.RunEnd.TheVariants.{NotAllowed}
use Rattle.make_core.proofs.Runs.{IsMidway, accepted_whole, midway_more, midway_refused, midway_whole, one_first, refused_by, sound_run}
use Rattle.make_core.proofs.Soundness.{sound_start}
use Rattle.make_core.proofs.run.run_events.Goals as goal

pub returns-then-is_err-clause-answer : goal.returns-then-is_err-clause-answer
returns-then-is_err-clause-answer c =
    let from = start c.args.files c.args.workers in
    let front : List Event = map (λ p. p.1) c.loop-index.yielded in
    let steps = c.in-Some.ensures.steps in
    let midway = subst (λ rest. IsMidway c.args.plan.now from c.args.events.items front rest c.loop-index.state) steps.0.0 c.loop-index.invariant.3 in
    let refused = refused_by c.args.plan.now c.in-Some.event c.loop-index.state c.step.new.self c.step.result c.step.ensures.answer (sym c.is_err.ensures.value ∙ c.if-is_err.true) in
    subst (IsFirstRefused c.args.plan.now from c.args.events.items) (sym (steps.1 ∙ c.loop-index.invariant.2))
    (midway_refused c.args.plan.now from c.args.events.items front c.in-Some.event _ c.loop-index.state midway refused)

pub loop-index-preserved : goal.loop-index-preserved
loop-index-preserved c =
    let from = start c.args.files c.args.workers in
    let front : List Event = map (λ p. p.1) c.loop-index.yielded in
    let steps = c.in-Some.ensures.steps in
    let pushed : map (λ p. p.1) (c.loop-index.yielded ++ (c.in-Some.index, c.in-Some.event) ∷ []) ≡ front ++ c.in-Some.event ∷ [] =
    map-append (λ p. p.1) c.loop-index.yielded ((c.in-Some.index, c.in-Some.event) ∷ []) in
    let midway = subst (λ rest. IsMidway c.args.plan.now from c.args.events.items front rest c.loop-index.state) steps.0.0 c.loop-index.invariant.3 in
    let more = midway_more c.args.plan.now from c.args.events.items front c.in-Some.event _ c.loop-index.state c.step.new.self c.step.result midway c.step.ensures.answer
    (sym c.is_err.ensures.value ∙ c.if-is_err.false) in (
      search rules,
      search rules,
      steps.2 ∙ (ap (λ n. n + 1) c.loop-index.invariant.2 ∙ (sym (length-append front (c.in-Some.event ∷ [])) ∙ ap length (sym pushed))),
      subst (λ done. IsMidway c.args.plan.now from c.args.events.items done c.next.new.self.iter.rest.items c.step.new.self) (sym pushed) more,
    )

pub returns-clause-sound : goal.returns-clause-sound
returns-clause-sound c =
    let midway = c.loop-index.invariant.3 in
    subst (IsSound c.args.plan.now) (sym midway.state_is)
    (sound_run c.args.plan.now (start c.args.files c.args.workers) _ midway.accepted (sound_start c.args.plan.now c.args.files c.args.workers))

pub returns-then-is_err-clause-refused : goal.returns-then-is_err-clause-refused
returns-then-is_err-clause-refused c = λ index first.
    inr (ap NotAllowed (one_first c.args.plan.now (start c.args.files c.args.workers) c.args.events.items c.in-Some.index index (returns-then-is_err-clause-answer c) first))

pub returns-clause-refused : goal.returns-clause-refused
returns-clause-refused c = λ index first.
    let from = start c.args.files c.args.workers in
    let none : length c.loop-index.index-iterator.iter.rest.items ≡ 0 = sym c.loop-index.index-iterator.iter.rest.ok.0 ∙ c.in-None.ensures.steps.0.0 in
    accepted_whole c.args.plan.now from c.args.events.items index
    (midway_whole c.args.plan.now from c.args.events.items _ c.loop-index.index-iterator.iter.rest.items c.loop-index.state c.loop-index.invariant.3 none) first
