use Rattle.std.proofs.Common.{ap, ok_or, lit<, ◌∙◌, length, arith}
use Rattle.std.proofs.Math.Logic.{⊎_map}
use Rattle.std.proofs.lemmas.Iterator.Consumers.{YieldsList-at, YieldsList-turn, YieldsList-end}
use Rattle.std.proofs.lemmas.Iterator.Splits.{YieldsList-from_str_split}
use Rattle.std.proofs.lemmas.List.{length_push}
use Rattle.std.proofs.lemmas.Result.{err_from_is_err_and}
use Rattle.path_text.specs.Path.{segments}
use Rattle.path_text.specs.declared.path_end.PathEnd.TheVariants.{Above}
use Rattle.path_text.specs.Path.{texts}
use Rattle.path_text.proofs.Walks.{some_from_ok, walk_goes, walk_stops, walk_ends}
use Rattle.path_text.proofs.path.walk.Goals as goal

pub loop-segment-preserved : goal.loop-segment-preserved
loop-segment-preserved c =
    let road = YieldsList-from_str_split 47 c.args.text.now (lit< tt) c.split-segment-items.ensures.text c.split-segment-items.ensures.has_more c.split-segment-items.ensures.pattern in
    let turn = YieldsList-turn (YieldsList-at c.into_iter-segment-iterator.ensures.into_iter_gives road) c.loop-segment.yielded _ c.loop-segment.yielded_by _ _ c.in-Some.segment c.in-Some.is c.next.ensures.steps in
    rw length_push (c.loop-segment.invariant ∙ walk_goes _ _ _ _ _ turn.0 turn.1 (some_from_ok _ _ c.in_ok-step.ensures))

pub returns-in_err-step : goal.returns-in_err-step
returns-in_err-step c =
    let road = YieldsList-from_str_split 47 c.args.text.now (lit< tt) c.split-segment-items.ensures.text c.split-segment-items.ensures.has_more c.split-segment-items.ensures.pattern in
    let turn = YieldsList-turn (YieldsList-at c.into_iter-segment-iterator.ensures.into_iter_gives road) c.loop-segment.yielded _ c.loop-segment.yielded_by _ _ c.in-Some.segment c.in-Some.is c.next.ensures.steps in
    let p = err_from_is_err_and c.from_residual.result c.from_residual.ensures.1 in
    rw (p.1, p.2) (⊎_map (λ e. e) (λ e. ap (λ walk. ok_or walk Above) c.loop-segment.invariant ∙ walk_stops _ _ _ _ _ turn.0 turn.1 e) c.in_err-step.ensures)

pub returns : goal.returns
returns c =
    let road = YieldsList-from_str_split 47 c.args.text.now (lit< tt) c.split-segment-items.ensures.text c.split-segment-items.ensures.has_more c.split-segment-items.ensures.pattern in
    let end = YieldsList-end (YieldsList-at c.into_iter-segment-iterator.ensures.into_iter_gives road) c.loop-segment.yielded _ c.loop-segment.yielded_by _ _ c.in-None.is c.next.ensures.steps in
    ap (λ walk. ok_or walk Above) (c.loop-segment.invariant ∙ walk_ends (texts c.loop-segment.kept.items) (segments c.args.text.now) (length c.loop-segment.yielded) (omega (arith, end.1)))
