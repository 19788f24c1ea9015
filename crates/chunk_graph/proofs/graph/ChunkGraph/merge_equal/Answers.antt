use Rattle.chunk_graph.proofs.Sound.{sound-merged}
use Rattle.chunk_graph.proofs.graph.ChunkGraph.merge_equal.Goals as goal

pub invariant_of-self : goal.invariant_of-self
invariant_of-self c =
    rw c.remove_merged.ensures (rw c.in_ok-groups.ensures (rw c.deref-2.ensures.value (rw c.deref-3.ensures.value (sound-merged _ c.self.invariant))))
