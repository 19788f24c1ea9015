use Rattle.std.proofs.Common.{lit<, Some, ap, sym, ◌∙◌}
use Rattle.std.specs.List.{list_any}
use Rattle.std.proofs.lemmas.Str.Pattern.{split_once_first}
use Rattle.pkg_exports.specs.Keys.{is_star}
use Rattle.pkg_exports.proofs.Stars.{around_none, more_stars, one_star}
use Rattle.pkg_exports.proofs.star.around_star.Goals as goal

pub returns-in_err-before : goal.returns-in_err-before
returns-in_err-before c = rw c.from_residual.ensures (around_none c.args.key.now c.split_once.result c.split_once.ensures.cases c.in_err-before.was)

pub returns-then-has_star : goal.returns-then-has_star
returns-then-has_star c =
    let split = split_once_first 42 c.args.key.now (Some (c.in_ok-before.before, c.in_ok-before.after)) c.in_ok-before.ensures.cases (lit< tt) in
    more_stars is_star c.args.key.now split.0 (ap (list_any is_star) (sym split.2) ∙ sym c.has_star.ensures ∙ c.if-has_star.true)

pub returns : goal.returns
returns c =
    let split = split_once_first 42 c.args.key.now (Some (c.in_ok-before.before, c.in_ok-before.after)) c.in_ok-before.ensures.cases (lit< tt) in
    (one_star is_star c.args.key.now split.0 (ap (list_any is_star) (sym split.2) ∙ sym c.has_star.ensures ∙ c.if-has_star.false), split.1, split.2)
