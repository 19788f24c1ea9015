use Rattle.std.proofs.Common.{ap, ◌∙◌, map, arith}
use Rattle.std.proofs.lemmas.List.{take_all}
use Rattle.std.specs.List.{enumerate_from}
use Rattle.stats_text.proofs.Lists.{view-pushed, view-list}
use Rattle.stats_text.proofs.Numbered.{map-more}
use Rattle.stats_text.specs.Stats.{group_stats}
use Rattle.stats_text.proofs.groups.groups_value.Goals as goal

pub loop-place-preserved : goal.loop-place-preserved
loop-place-preserved c =
    let infos = c.args.groups.now.infos in
    view-pushed _ _ _ _ _ _ c.in_ok-push.ensures.items c.loop-place.invariant c.in_ok-group_value.ensures
    (map-more (group_stats c.args.chunks.now) infos c.loop-place.place c.info.result.now (omega arith) c.info.ensures)

pub returns : goal.returns
returns c =
    let infos = c.args.groups.now.infos in
    view-list c.loop-place.values _ (c.loop-place.invariant
    ∙ ap (λ front. map (group_stats c.args.chunks.now) (enumerate_from 0 front)) (take_all c.loop-place.place infos (omega arith)))
