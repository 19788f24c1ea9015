use Rattle.es_tokens.proofs.SpanLemmas.{in-order, at-most}
use Rattle.es_tokens.proofs.laws.spans_lie_in_order.Goals as goal

pub returns : goal.returns
returns c = record { order = in-order; count = at-most }
