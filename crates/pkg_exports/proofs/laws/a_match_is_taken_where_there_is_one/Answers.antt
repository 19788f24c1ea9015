use Rattle.pkg_exports.specs.Exports.{matches_of}
use Rattle.pkg_exports.proofs.Greatest.{none_taken}
use Rattle.pkg_exports.proofs.laws.a_match_is_taken_where_there_is_one.Goals as goal

pub returns : goal.returns
returns c = λ subpath pairs. none_taken (matches_of subpath pairs)
