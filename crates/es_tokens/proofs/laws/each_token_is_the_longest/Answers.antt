use Rattle.es_tokens.proofs.SpanLemmas.{all-longest}
use Rattle.es_tokens.proofs.laws.each_token_is_the_longest.Goals as goal

pub returns : goal.returns
returns c = all-longest
