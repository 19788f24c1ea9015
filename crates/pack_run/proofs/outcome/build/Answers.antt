use Rattle.std.proofs.Common.{[], ◌∷◌, ◌++◌, ap, ◌∙◌}
use Rattle.pack_run.proofs.outcome.build.Goals as goal

pub returns : goal.returns
returns c =
    let assets = c.in_ok-push.ensures.ok ∙ ap (λ stats. c.args.sealed.assets ++ stats ∷ []) c.in_ok-stats.ensures in
    λ i. record { modules = c.args.modules; groups = c.args.sealed.groups; chunks = c.args.sealed.chunks; splits = c.args.sealed.splits; assets = assets i }
