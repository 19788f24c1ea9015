use Rattle.es_tokens.proofs.BraceLemmas.{brace-closed}
use Rattle.es_tokens.proofs.laws.each_brace_is_closed.Goals as goal

pub returns : goal.returns
returns c = brace-closed
