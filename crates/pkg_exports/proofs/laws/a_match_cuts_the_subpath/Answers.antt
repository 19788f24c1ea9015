use Rattle.pkg_exports.proofs.Ranks.{cut}
use Rattle.pkg_exports.proofs.laws.a_match_cuts_the_subpath.Goals as goal

pub returns : goal.returns
returns c = cut
