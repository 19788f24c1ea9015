use Rattle.std.proofs.Common.{◌<◌, length, refl, sym, subst, below_more, ◌∙◌, arith}
use Rattle.std.proofs.lemmas.Bool.{false≢true}
use Rattle.std.proofs.lemmas.List.{get_or_default}
use Rattle.graph_types.specs.declared.groups.GroupInfo.{GroupInfo}
use Rattle.chunk_groups.specs.Grouped.{IsOver, no_group}
use Rattle.chunk_groups.proofs.Infos.{info_is}
use Rattle.chunk_groups.proofs.over.are_over.Goals as goal

pub returns-then-not-is_over : goal.returns-then-not-is_over
returns-then-not-is_over c =
    let infos = c.args.groups.now.infos in
    let within : c.loop-g.g < length infos = omega arith in
    let is = info_is infos c.loop-g.g c.info.result.now within c.info.ensures in (
      λ no. absurd (false≢true no),
      λ over. sym c.if-not-is_over.true ∙ c.is_over.ensures.1 (subst (λ (i : GroupInfo). IsOver c.args.graph.now i) (sym is) (over c.loop-g.g no_group within)),
    )

pub loop-g-preserved : goal.loop-g-preserved
loop-g-preserved c =
    let infos = c.args.groups.now.infos in
    let within : c.loop-g.g < length infos = omega arith in
    let is = info_is infos c.loop-g.g c.info.result.now within c.info.ensures in
    below_more _ _ c.loop-g.invariant (subst (λ (i : GroupInfo). IsOver c.args.graph.now i) is (c.is_over.ensures.0 c.if-not-is_over.false))

pub returns : goal.returns
returns c =
    let infos = c.args.groups.now.infos in (
      λ yes k d l. subst (λ (i : GroupInfo). IsOver c.args.graph.now i) (get_or_default infos k no_group d l) (c.loop-g.invariant k (omega arith)),
      λ over. refl,
    )
