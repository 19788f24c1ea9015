use Rattle.es_tokens.proofs.DepthLemmas.{tokens-nested}
use Rattle.es_tokens.proofs.laws.brackets_nest.Goals as goal

pub returns : goal.returns
returns c = tokens-nested
