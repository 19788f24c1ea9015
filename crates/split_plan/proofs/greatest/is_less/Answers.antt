use Rattle.std.proofs.Common.{get_or, ap, ◌∙◌}
use Rattle.std.specs.Ordering.{is_lt}
use Rattle.split_plan.proofs.GreatestOf.{order_by}
use Rattle.split_plan.proofs.greatest.is_less.Goals as goal

pub returns : goal.returns
returns c =
    let x = c.args.x.now in
    let y = c.args.y.now in
    let a = c.index-groups-x.result in
    let b = c.index-groups-y.result in
    c.is_lt.ensures ∙ ap is_lt (c.compare.ensures
    ∙ order_by c.args.graph.now c.args.config.now x y a b c.requires.x c.requires.y
    (c.index-groups-x.is ∙ ap (λ groups. get_or groups x.cache_group a) c.as_slice-groups.ensures)
    (c.index-groups-y.is ∙ ap (λ groups. get_or groups y.cache_group b) c.as_slice-groups.ensures))
