use Rattle.std.proofs.Common.{◌<◌, length, sym, subst, ◌∙◌, arith}
use Rattle.std.specs.Prelude.{◌↔◌, IsTrue}
use Rattle.std.proofs.lemmas.List.{length-set}
use Rattle.graph_types.specs.declared.groups.GroupInfo.{GroupInfo}
use Rattle.chunk_groups.specs.Grouped.{IsOver, info_at, no_group}
use Rattle.chunk_groups.proofs.Infos.{info_is}
use Rattle.avail_sets.specs.inner.Falling.{IsOpened}
use Rattle.avail_sets.proofs.Which.{which-none, which-more}
use Rattle.avail_sets.proofs.opening.set_opened.Goals as goal

pub loop-g-init : goal.loop-g-init
loop-g-init c = (c.requires.places, which-none _ _)

pub is_opened-requires-clause-over : goal.is_opened-requires-clause-over
is_opened-requires-clause-over c =
    let within : c.loop-g.g < length c.args.groups.now.infos = omega arith in
    subst (λ (i : GroupInfo). IsOver c.args.graph.now i) (sym (info_is c.args.groups.now.infos c.loop-g.g c.info.result.now within c.info.ensures)) (c.requires.over c.loop-g.g no_group within)

pub loop-g-preserved : goal.loop-g-preserved
loop-g-preserved c =
    let infos = c.args.groups.now.infos in
    let within : c.loop-g.g < length infos = omega arith in
    let before = c.loop-g.invariant in
    let test : IsTrue c.is_opened.result ↔ IsOpened c.args.graph.now (info_at infos c.loop-g.g) c.args.modules.now =
    subst (λ (i : GroupInfo). IsTrue c.is_opened.result ↔ IsOpened c.args.graph.now i c.args.modules.now) (info_is infos c.loop-g.g c.info.result.now within c.info.ensures) c.is_opened.ensures in
    rw c.set.ensures (length-set c.loop-g.row c.loop-g.g c.is_opened.result ∙ before.0, which-more _ c.loop-g.row c.loop-g.g c.is_opened.result (omega (arith, before.0)) before.1 test)
