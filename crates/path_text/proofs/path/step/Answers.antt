use Rattle.path_text.proofs.Walks.{step_pushes}
use Rattle.path_text.proofs.path.step.Goals as goal

pub returns-in_ok-push-in_default : goal.returns-in_ok-push-in_default
returns-in_ok-push-in_default c =
    step_pushes c.args.kept.now.items _ c.args.segment c.in_ok-push-in_default.ensures.items c.in_default.not-empty c.in_default.not-text c.in_default.not-text-2
