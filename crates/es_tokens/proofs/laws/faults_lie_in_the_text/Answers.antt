use Rattle.es_tokens.proofs.FaultLemmas.{fault-within}
use Rattle.es_tokens.proofs.laws.faults_lie_in_the_text.Goals as goal

pub returns : goal.returns
returns c = fault-within
