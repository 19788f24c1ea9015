use Rattle.pkg_exports.proofs.Joins.{filled_with_star}
use Rattle.pkg_exports.proofs.laws.star_stays.Goals as goal

pub returns : goal.returns
returns c = filled_with_star
