use Rattle.es_scan.proofs.NumberLemmas.{item_named}
use Rattle.es_scan.proofs.laws.number_names_the_item.Goals as goal

pub returns : goal.returns
returns c = λ text tokens at size item there one. item_named text tokens at size item there one
