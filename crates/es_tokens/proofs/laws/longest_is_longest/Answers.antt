use Rattle.es_tokens.proofs.LongestLemmas.{longest-leaves}
use Rattle.es_tokens.proofs.laws.longest_is_longest.Goals as goal

pub returns : goal.returns
returns c = longest-leaves
