use Rattle.es_tokens.proofs.CountLemmas.{depths-count}
use Rattle.es_tokens.proofs.laws.depths_count_open_brackets.Goals as goal

pub returns : goal.returns
returns c = depths-count
