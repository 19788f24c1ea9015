use Rattle.std.proofs.Common.{lit<, ◌∙◌, length, arith}
use Rattle.std.proofs.Math.Logic.{⊎_map}
use Rattle.std.proofs.lemmas.Iterator.Consumers.{YieldsList-at, YieldsList-turn, YieldsList-end}
use Rattle.std.proofs.lemmas.Iterator.Splits.{YieldsList-from_str_split}
use Rattle.std.proofs.lemmas.List.{length_push}
use Rattle.std.proofs.lemmas.Result.{err_from_is_err_and}
use Rattle.asset_names.proofs.Steps.{all_goes, all_stops, all_ends}
use Rattle.asset_names.proofs.reading.push_all.Goals as goal

pub loop-marked-preserved : goal.loop-marked-preserved
loop-marked-preserved c =
    let road = YieldsList-from_str_split 91 c.args.text.now (lit< tt) c.split-marked-items.ensures.text c.split-marked-items.ensures.has_more c.split-marked-items.ensures.pattern in
    let turn = YieldsList-turn (YieldsList-at c.into_iter-marked-iterator.ensures.into_iter_gives road) c.loop-marked.yielded _ c.loop-marked.yielded_by _ _ c.in-Some.marked c.in-Some.is c.next.ensures.steps in
    rw length_push (c.loop-marked.invariant ∙ all_goes _ _ _ _ _ _ turn.0 turn.1 c.in_ok-push_marked.ensures)

pub returns-in_err-push_marked : goal.returns-in_err-push_marked
returns-in_err-push_marked c =
    let road = YieldsList-from_str_split 91 c.args.text.now (lit< tt) c.split-marked-items.ensures.text c.split-marked-items.ensures.has_more c.split-marked-items.ensures.pattern in
    let turn = YieldsList-turn (YieldsList-at c.into_iter-marked-iterator.ensures.into_iter_gives road) c.loop-marked.yielded _ c.loop-marked.yielded_by _ _ c.in-Some.marked c.in-Some.is c.next.ensures.steps in
    let p = err_from_is_err_and c.from_residual.result c.from_residual.ensures.1 in
    rw (p.1, p.2) (⊎_map (λ e. e) (λ e. (e.0, c.loop-marked.invariant ∙ all_stops _ _ _ _ _ turn.0 turn.1 e.1)) c.in_err-push_marked.ensures)

pub returns : goal.returns
returns c =
    let road = YieldsList-from_str_split 91 c.args.text.now (lit< tt) c.split-marked-items.ensures.text c.split-marked-items.ensures.has_more c.split-marked-items.ensures.pattern in
    let end = YieldsList-end (YieldsList-at c.into_iter-marked-iterator.ensures.into_iter_gives road) c.loop-marked.yielded _ c.loop-marked.yielded_by _ _ c.in-None.is c.next.ensures.steps in
    c.loop-marked.invariant ∙ all_ends _ _ _ (length c.loop-marked.yielded) (omega (arith, end.1))
