use Rattle.make_core.specs.declared.event.Event.TheVariants.{Claim, Publish}
use Rattle.make_core.proofs.Soundness.{answer_keeps}
use Rattle.make_core.proofs.state.CoreState.step.Goals as goal

pub returns-in-Claim-clause-sound : goal.returns-in-Claim-clause-sound
returns-in-Claim-clause-sound c = answer_keeps c.args.plan.now (Claim c.in-Claim.worker c.in-Claim.file) c.args.self.now c.claim.new.self c.claim.result c.claim.ensures

pub returns-in-Publish-clause-sound : goal.returns-in-Publish-clause-sound
returns-in-Publish-clause-sound c =
    answer_keeps c.args.plan.now (Publish c.in-Publish.worker c.in-Publish.file c.in-Publish.rec) c.args.self.now c.publish.new.self c.publish.result c.publish.ensures
