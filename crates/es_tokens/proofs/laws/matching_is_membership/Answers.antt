use Rattle.es_tokens.proofs.LanguageLemmas.{shape-means}
use Rattle.es_tokens.proofs.laws.matching_is_membership.Goals as goal

pub returns : goal.returns
returns c = shape-means
