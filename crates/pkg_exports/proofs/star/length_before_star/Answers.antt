use Rattle.std.proofs.Common.{◌∙◌, ap, length}
use Rattle.std.specs.Option.{unwrap_or}
use Rattle.pkg_exports.specs.Keys.{is_star}
use Rattle.pkg_exports.proofs.Stars.{place_or_end}
use Rattle.pkg_exports.proofs.star.length_before_star.Goals as goal

pub returns : goal.returns
returns c = c.unwrap_or.ensures ∙ ap (λ place. unwrap_or place (length c.args.key.now)) c.first_star.ensures ∙ place_or_end is_star c.args.key.now
