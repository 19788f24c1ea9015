use Rattle.es_tokens.proofs.LawLemmas.{tokens-one, fault-one}
use Rattle.es_tokens.proofs.laws.one_list_or_one_fault.Goals as goal

pub returns : goal.returns
returns c = record { tokens = tokens-one; fault = fault-one }
