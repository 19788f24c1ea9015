use Rattle.std.proofs.Common.{ℕ, length, get_or, sym, ap, subst, ◌∙◌}
use Rattle.std.proofs.lemmas.List.{get_or_read}
use Rattle.split_plan.specs.Plan.{no_rule}
use Rattle.split_plan.specs.inner.Rows.{AreChunkRows, columns_of}
use Rattle.split_plan.proofs.Found.{search_from, columns_len}
use Rattle.split_plan.proofs.Shares.{on_any, rows_from}
use Rattle.split_plan.proofs.search.form_candidates.Goals as goal

pub all_sharers-requires-clause-columns : goal.all_sharers-requires-clause-columns
all_sharers-requires-clause-columns c =
    let s = c.args.state.now in
    c.requires.columns ∙ ap (columns_of s) (sym (columns_len s c.args.columns.now (length c.args.plan.now.sizes) c.requires.columns))

pub all_sharers-requires-clause-rows : goal.all_sharers-requires-clause-rows
all_sharers-requires-clause-rows c =
    let s = c.args.state.now in
    let P : ℕ → Type 0 = λ n. AreChunkRows s n c.args.shares.now.items in
    subst P (sym (columns_len s c.args.columns.now (length c.args.plan.now.sizes) c.requires.columns)) c.requires.rows

pub named_candidate-requires-clause-search : goal.named_candidate-requires-clause-search
named_candidate-requires-clause-search c =
    let p = c.args.plan.now in
    let k = c.args.form.cache_group in
    let r = c.index-rules-form.result in
    let rule = get_or_read p.rules k r c.requires.group (c.index-rules-form.is ∙ ap (λ rules. get_or rules k r) c.rules.ensures) no_rule in
    search_from p c.args.state.now k c.args.form.forced r c.args.columns.now _ c.width-width.ensures.plan c.count-count.ensures.sound c.requires.group c.requires.width rule c.requires.columns (c.deref.ensures.value ∙ c.in_ok-all_sharers.ensures)

pub returns-then-is_some-clause-rows : goal.returns-then-is_some-clause-rows
returns-then-is_some-clause-rows c =
    let s = c.args.state.now in
    let width = length c.args.plan.now.sizes in
    rows_from c.index-rules-form.result c.args.form.forced s c.args.columns.now _ width (columns_len s c.args.columns.now width c.requires.columns) c.in_ok-all_sharers.ensures

pub unnamed_candidates-requires-clause-search : goal.unnamed_candidates-requires-clause-search
unnamed_candidates-requires-clause-search c =
    let p = c.args.plan.now in
    let k = c.args.form.cache_group in
    let r = c.index-rules-form.result in
    let rule = get_or_read p.rules k r c.requires.group (c.index-rules-form.is ∙ ap (λ rules. get_or rules k r) c.rules.ensures) no_rule in
    search_from p c.args.state.now k c.args.form.forced r c.args.columns.now _ c.width-width.ensures.plan c.count-count.ensures.sound c.requires.group c.requires.width rule c.requires.columns (c.deref-2.ensures.value ∙ c.in_ok-all_sharers.ensures)

pub returns-clause-rows : goal.returns-clause-rows
returns-clause-rows c =
    let s = c.args.state.now in
    let width = length c.args.plan.now.sizes in
    on_any c.unnamed_candidates.result _ (rows_from c.index-rules-form.result c.args.form.forced s c.args.columns.now _ width (columns_len s c.args.columns.now width c.requires.columns) c.in_ok-all_sharers.ensures)
