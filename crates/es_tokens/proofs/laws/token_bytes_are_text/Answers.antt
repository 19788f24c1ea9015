use Rattle.es_tokens.proofs.SpanLemmas.{all-utf8, strings-quoted}
use Rattle.es_tokens.proofs.laws.token_bytes_are_text.Goals as goal

pub returns : goal.returns
returns c = record { utf8 = all-utf8; string = strings-quoted }
