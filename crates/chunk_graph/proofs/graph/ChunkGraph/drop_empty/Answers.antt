use Rattle.chunk_graph.proofs.Sound.{sound-without_empty}
use Rattle.chunk_graph.proofs.graph.ChunkGraph.drop_empty.Goals as goal

pub invariant_of-self : goal.invariant_of-self
invariant_of-self c = rw c.remove_empty.ensures (rw c.leave_out_empty.ensures (rw c.deref.ensures.value (sound-without_empty _ c.self.invariant)))
