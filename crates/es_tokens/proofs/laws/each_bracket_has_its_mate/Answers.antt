use Rattle.es_tokens.proofs.MateLemmas.{tokens-mates}
use Rattle.es_tokens.proofs.laws.each_bracket_has_its_mate.Goals as goal

pub returns : goal.returns
returns c = tokens-mates
