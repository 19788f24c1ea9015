use Rattle.std.proofs.Common.{[], length, sym, ap, ◌∙◌, arith}
use Rattle.std.proofs.lemmas.List.FromFn.{fill_by_all}
use Rattle.split_plan.specs.Shares.{sharers}
use Rattle.split_plan.proofs.Shares.{allowed_len, column_len, filled_more, row_len, row_set, sharers_len, shares_from}
use Rattle.split_plan.proofs.form.all_sharers.Goals as goal

pub fill_share-requires-clause-row : goal.fill_share-requires-clause-row
fill_share-requires-clause-row c =
    let s = c.args.state.now in
    row_len s _ c.loop-module.shares.items c.loop-module.module _ c.loop-module.invariant.rows c.loop-module-test.true c.index_mut-row.ensures.value
    ∙ sym (allowed_len c.args.rule.now c.args.forced s _ c.in_ok-allowed.ensures)

pub fill_share-requires-clause-column : goal.fill_share-requires-clause-column
fill_share-requires-clause-column c =
    let s = c.args.state.now in
    column_len s c.args.columns.now c.loop-module.module _ c.requires.columns c.loop-module-test.true c.index-columns-module.is
    ∙ sym (allowed_len c.args.rule.now c.args.forced s _ c.in_ok-allowed.ensures)

pub loop-module-preserved : goal.loop-module-preserved
loop-module-preserved c =
    let s = c.args.state.now in
    let rule = c.args.rule.now in
    let m = c.loop-module.module in
    let rows = c.loop-module.shares.items in
    let is = c.fill_share.ensures ∙ shares_from rule c.args.forced s c.args.columns.now m _ _ c.requires.columns c.loop-module-test.true c.index-columns-module.is c.in_ok-allowed.ensures in
    record {
      rows = row_set s _ rows m _ c.loop-module.invariant.rows c.loop-module-test.true (ap length is ∙ sharers_len rule c.args.forced s m);
      here = filled_more (sharers rule c.args.forced s) rows m _ (omega (arith, c.loop-module.invariant.rows.len, c.loop-module-test.true)) is c.loop-module.invariant.here;
    }

pub returns : goal.returns
returns c =
    fill_by_all (sharers c.args.rule.now c.args.forced c.args.state.now) c.loop-module.shares.items (length c.args.columns.now) [] c.loop-module.invariant.rows.len
    (λ m lt. c.loop-module.invariant.here m (omega (arith, lt, c.loop-module-test.false)))
