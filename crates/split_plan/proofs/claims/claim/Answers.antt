use Rattle.std.proofs.Common.{◌≡◌, List, Bool, Option, length, get_or, sym, ap, subst, ◌∙◌}
use Rattle.std.specs.Prelude.{MatchOption, true, false}
use Rattle.std.proofs.lemmas.List.{get_or_read}
use Rattle.std.proofs.lemmas.List.FromFn.{length-map-range_with_len}
use Rattle.split_plan.specs.Candidates.{comes_from, goes, modules_for}
use Rattle.split_plan.specs.Plan.{no_rule, rule_at}
use Rattle.split_plan.specs.inner.Rows.{column, columns_of}
use Rattle.split_plan.proofs.Found.{search_from, columns_len}
use Rattle.split_plan.proofs.Shares.{blank_rows_from}
use Rattle.split_plan.proofs.claims.claim.Goals as goal

pub all_sharers-requires-clause-columns : goal.all_sharers-requires-clause-columns
all_sharers-requires-clause-columns c =
    let s = c.args.state.now in
    let p = c.args.plan.now in
    let is : c.deref.result.now ≡ columns_of s (length p.sizes) = c.deref.ensures.value ∙ c.in_ok-columns.ensures ∙ ap (columns_of s) c.width.ensures.width in
    is ∙ ap (columns_of s) (sym (columns_len s c.deref.result.now (length p.sizes) is))

pub all_sharers-requires-clause-rows : goal.all_sharers-requires-clause-rows
all_sharers-requires-clause-rows c =
    let s = c.args.state.now in
    let width = ap length (c.deref.ensures.value ∙ c.in_ok-columns.ensures) ∙ length-map-range_with_len (column s) 0 c.width.result in
    blank_rows_from s c.width-2.result (length c.deref.result.now) c.count.result _ (width ∙ c.width.ensures.width ∙ sym c.width-2.ensures.width) c.count.ensures.count c.in_ok-shares.ensures

pub claimed_modules-requires : goal.claimed_modules-requires
claimed_modules-requires c =
    let s = c.args.state.now in
    let p = c.args.plan.now in
    let k = c.args.cache_group in
    let r = c.index-rules-cache_group.result in
    let rule = get_or_read p.rules k r c.requires.group (c.index-rules-cache_group.is ∙ ap (λ rules. get_or rules k r) c.rules.ensures) no_rule in
    let is : c.deref.result.now ≡ columns_of s (length p.sizes) = c.deref.ensures.value ∙ c.in_ok-columns.ensures ∙ ap (columns_of s) c.width.ensures.width in
    search_from p s k c.args.forced r c.deref.result.now _ c.width.ensures.plan c.count-count.ensures.sound c.requires.group c.requires.width rule is (c.deref-2.ensures.value ∙ c.in_ok-all_sharers.ensures)

pub size_of-size-requires-clause-len : goal.size_of-size-requires-clause-len
size_of-size-requires-clause-len c =
    let s = c.args.state.now in
    let p = c.args.plan.now in
    let rule = rule_at p c.args.cache_group in
    let P : Option (List Bool) → Type 0 = λ o. MatchOption o (comes_from rule c.args.forced s (length p.sizes) c.args.chunks ≡ false)
    (λ row. (comes_from rule c.args.forced s (length p.sizes) c.args.chunks ≡ true) × (row ≡ modules_for rule c.args.forced s (length p.sizes) c.args.chunks)) in
    let both = subst P c.in-Some.is c.in_ok-modules.ensures in
    ap length both.1 ∙ length-map-range_with_len (goes rule.name rule c.args.forced s c.args.chunks) 0 (length p.sizes) ∙ sym (ap length c.sizes.ensures)
