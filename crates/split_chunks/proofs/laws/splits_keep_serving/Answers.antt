use Rattle.chunk_graph.specs.Chunks.{has_module}
use Rattle.split_chunks.proofs.laws.splits_keep_serving.Goals as goal

pub returns : goal.returns
returns c = λ net p s t splits loads serves. c.serves_with_more.ensures net (has_module s) (has_module t) (λ g m held. loads.lost g m held) serves
