use Rattle.std.proofs.Common.{◌<◌, List, length, ap, subst, ◌∙◌, arith}
use Rattle.std.proofs.lemmas.List.Elements.{All-same}
use Rattle.bit_rows.specs.Table.{blank}
use Rattle.pack_util.specs.declared.number.ModuleNo.{ModuleNo}
use Rattle.chunk_groups.specs.Grouped.{info_at, no_group, numbers, targets_at}
use Rattle.chunk_groups.specs.inner.Marking.{HasReached}
use Rattle.chunk_groups.proofs.Filled.{fresh-filled, filled-more, all-filled}
use Rattle.chunk_groups.proofs.Infos.{roots_of_info}
use Rattle.chunk_groups.proofs.reaching.reach.Goals as goal

pub loop-g-init : goal.loop-g-init
loop-g-init c =
    let table = c.in_ok-table.ensures in
    let row = c.in_ok-row.ensures in
    fresh-filled c.args.graph.now c.args.groups.now.infos c.in_ok-table.table c.in_ok-row.row (rw (← c.count-2.ensures.count, ← c.count.ensures) table) (row ∙ ap blank c.count-3.ensures.count)

pub mark_reached-requires-clause-roots : goal.mark_reached-requires-clause-roots
mark_reached-requires-clause-roots c =
    let infos = c.args.groups.now.infos in
    let within : c.loop-g.g < length infos = omega arith in
    All-same (λ m. m.0 < length c.args.graph.now.records) c.as_slice.result.now _
    (roots_of_info infos c.loop-g.g c.info-info.result.now c.as_slice.result.now within c.info-info.ensures c.as_slice.ensures) (c.requires c.loop-g.g no_group within).roots

pub loop-g-preserved : goal.loop-g-preserved
loop-g-preserved c =
    let graph = c.args.graph.now in
    let infos = c.args.groups.now.infos in
    let within : c.loop-g.g < length infos = omega arith in
    let roots = roots_of_info infos c.loop-g.g c.info-info.result.now c.as_slice.result.now within c.info-info.ensures c.as_slice.ensures in
    let has : HasReached (targets_at graph.records) (numbers (info_at infos c.loop-g.g).roots) c.mark_reached.new.row =
    subst (λ (l : List ModuleNo). HasReached (targets_at graph.records) (numbers l) c.mark_reached.new.row) roots c.in_ok-mark_reached.ensures.reached in
    let more = filled-more graph infos c.loop-g.table c.loop-g.row c.mark_reached.new.row c.swap_row.new.row c.loop-g.g within c.loop-g.invariant has c.swap_row.ensures.row in
    rw c.swap_row.ensures.table more

pub returns : goal.returns
returns c = all-filled c.args.graph.now c.args.groups.now.infos c.loop-g.table c.loop-g.row c.loop-g.g (omega arith) c.loop-g.invariant
