use Rattle.pkg_exports.proofs.Ranks.{ranked}
use Rattle.pkg_exports.proofs.laws.matching_keys_are_ranked.Goals as goal

pub returns : goal.returns
returns c = ranked
