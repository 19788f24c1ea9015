use Rattle.es_tokens.proofs.SpanLemmas.{new-lines}
use Rattle.es_tokens.proofs.laws.new_lines_are_those_of_gaps.Goals as goal

pub returns : goal.returns
returns c = new-lines
