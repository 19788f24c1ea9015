use Rattle.es_tokens.proofs.SpanLemmas.{gaps-between}
use Rattle.es_tokens.proofs.laws.only_gaps_stand_between.Goals as goal

pub returns : goal.returns
returns c = gaps-between
