use Rattle.std.proofs.Common.{◌<◌, [], List, length, ap, subst, ◌∙◌, arith}
use Rattle.std.proofs.lemmas.List.{length-replicate}
use Rattle.pack_util.specs.declared.number.ModuleNo.{ModuleNo}
use Rattle.chunk_groups.specs.Grouped.{numbers, targets_at}
use Rattle.chunk_groups.specs.inner.Marking.{IsMarked}
use Rattle.chunk_groups.proofs.Marks.{marking-starts, visited, waiting-within, all-marked, none-left}
use Rattle.chunk_groups.proofs.Within.{listed-within, listed-numbers}
use Rattle.chunk_groups.proofs.reaching.mark_reached.Goals as goal

pub loop-m-init : goal.loop-m-init
loop-m-init c =
    let first : IsMarked c.args.row.now c.mark_new.new.row [] c.mark_new.new.waiting.items c.args.roots.now =
    subst (λ (l : List ModuleNo). IsMarked c.args.row.now c.mark_new.new.row l c.mark_new.new.waiting.items c.args.roots.now) c.new-waiting.ensures.items c.in_ok-mark_new.ensures in
    (first.len ∙ ap length c.requires.blank ∙ length-replicate _ _, marking-starts (targets_at c.args.graph.now.records) _ _ _ _ _ c.requires.blank first)

pub sync_targets-requires : goal.sync_targets-requires
sync_targets-requires c =
    omega (arith, waiting-within (targets_at c.args.graph.now.records) (numbers c.args.roots.now) c.loop-m.row _ _ c.in-Some.m c.loop-m.invariant.1 c.in-Some.ensures.items, c.loop-m.invariant.0)

pub mark_new-requires-in-Some : goal.mark_new-requires-in-Some
mark_new-requires-in-Some c =
    let records = c.args.graph.now.records in
    let known : c.in-Some.m.0 < length records =
    omega (arith, waiting-within (targets_at records) (numbers c.args.roots.now) c.loop-m.row _ _ c.in-Some.m c.loop-m.invariant.1 c.in-Some.ensures.items, c.loop-m.invariant.0) in
    λ k d l. omega (arith, listed-within records c.in-Some.m.0 c.sync_targets.result.now known c.sync_targets.ensures k d l, c.loop-m.invariant.0)

pub loop-m-preserved : goal.loop-m-preserved
loop-m-preserved c =
    let records = c.args.graph.now.records in
    let known : c.in-Some.m.0 < length records =
    omega (arith, waiting-within (targets_at records) (numbers c.args.roots.now) c.loop-m.row _ _ c.in-Some.m c.loop-m.invariant.1 c.in-Some.ensures.items, c.loop-m.invariant.0) in
    let leads = listed-numbers records c.in-Some.m.0 c.sync_targets.result.now known c.sync_targets.ensures in
    let marked : IsMarked c.loop-m.row c.mark_new-in-Some.new.row c.pop.new.self.items c.mark_new-in-Some.new.waiting.items c.sync_targets.result.now = c.in_ok-mark_new-2.ensures in
    (marked.len ∙ c.loop-m.invariant.0, visited (targets_at records) (numbers c.args.roots.now) _ _ _ _ _ _ c.in-Some.m c.loop-m.invariant.1 c.in-Some.ensures.items leads marked)

pub returns-clause-reached : goal.returns-clause-reached
returns-clause-reached c =
    let none = none-left c.loop-m.waiting.items c.pop.new.self.items _ c.in_default.ensures.items c.in_default.ensures.rest c.in_default.ensures.cases.0 in
    all-marked (targets_at c.args.graph.now.records) (numbers c.args.roots.now) c.loop-m.row c.loop-m.waiting.items none c.loop-m.invariant.1
