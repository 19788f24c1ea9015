use Rattle.pkg_exports.proofs.Stars.{cut_none, cut_some}
use Rattle.pkg_exports.proofs.star.between.Goals as goal

pub returns-in_err-strip_prefix : goal.returns-in_err-strip_prefix
returns-in_err-strip_prefix c = rw c.from_residual.ensures (cut_none c.args.text.now c.args.before.now c.args.after.now c.in_err-strip_prefix.ensures.cases)

pub returns : goal.returns
returns c =
    let front = c.in_ok-strip_prefix.ensures.cases in
    cut_some c.args.text.now c.args.before.now c.args.after.now c.in_ok-strip_prefix.field-0.now front.0 front.1 front.2 c.strip_suffix.result c.strip_suffix.ensures.cases
