use Rattle.std.proofs.Common.{◌++◌, ◌∷◌, [], ap, ◌∙◌, sym, arith}
use Rattle.graph_types.specs.Modules.{module_no}
use Rattle.stats_text.proofs.Held.{below_end, next-held, no-more-held}
use Rattle.stats_text.proofs.members.held_modules.Goals as goal

pub overflow_add-at : goal.overflow_add-at
overflow_add-at c = omega (arith, below_end c.args.row.now c.in-Some.place c.in-Some.ensures.is_true, c.len-len.ensures)

pub loop-place-preserved : goal.loop-place-preserved
loop-place-preserved c =
    let place = c.in-Some.place in
    record {
      bound = omega (arith, below_end c.args.row.now place c.in-Some.ensures.is_true);
      held = c.in_ok-push.ensures.items ∙ ap (λ front. front ++ module_no place ∷ []) c.loop-place.invariant.held ∙ sym (next-held c.args.row.now c.loop-place.at place c.in-Some.ensures);
    }

pub returns : goal.returns
returns c = c.loop-place.invariant.held ∙ no-more-held c.args.row.now c.loop-place.at c.loop-place.invariant.bound c.in_default.ensures
