use Rattle.std.proofs.Common.{◌∙◌, ap, cond, Some, None}
use Rattle.pkg_exports.specs.Keys.{matched_part}
use Rattle.pkg_exports.proofs.Stars.{match_test}
use Rattle.pkg_exports.proofs.star.matched_part.Goals as goal

pub returns : goal.returns
returns c =
    let e = rw (c.in_ok-before.ensures.1, c.in_ok-before.ensures.2) at c.between.ensures in
    e ∙ ap (λ b. cond b (Some (matched_part c.args.subpath.now c.args.key.now)) None) (match_test c.args.subpath.now c.args.key.now c.in_ok-before.ensures.0 c.if-subpath-key.false)
