use Rattle.std.proofs.Common.{◌+◌, slice_index, ap, ◌∙◌, arith}
use Rattle.split_plan.proofs.Places.{is_in-below}
use Rattle.split_plan.proofs.Sizes.{size_step, size_end}
use Rattle.split_plan.proofs.form.size_of.Goals as goal

pub overflow_add-total : goal.overflow_add-total
overflow_add-total c =
    let step = size_step c.args.sizes.now c.args.row.now c.loop-module.at c.in-Some.module c.requires.len c.in-Some.ensures in
    let total = c.loop-module.invariant.total in
    omega (arith, step.0, step.1, total, c.requires.small)

pub loop-module-preserved : goal.loop-module-preserved
loop-module-preserved c =
    let step = size_step c.args.sizes.now c.args.row.now c.loop-module.at c.in-Some.module c.requires.len c.in-Some.ensures in
    record {
      bound = omega (arith, is_in-below c.args.row.now c.in-Some.module c.in-Some.ensures.is_true);
      total = ap (λ n. n + slice_index c.args.sizes.now c.in-Some.module) c.loop-module.invariant.total ∙ step.0;
    }

pub returns : goal.returns
returns c = c.loop-module.invariant.total ∙ size_end c.args.sizes.now c.args.row.now c.loop-module.at c.requires.len c.loop-module.invariant.bound c.in_default.ensures
