use Rattle.std.proofs.Common.{arith}
use Rattle.chunk_graph.proofs.Sound.{sound-started}
use Rattle.chunk_graph.proofs.graph.ChunkGraph.start.Goals as goal

pub invariant_of-result : goal.invariant_of-result
invariant_of-result c =
    let sound = sound-started c.args.placed.now c.args.entries c.args.names.now c.rows.ensures.even c.requires.few c.requires.entries (omega (arith, c.width.ensures)) in
    rw c.width.ensures (rw c.in_ok-first_chunks.ensures (rw c.in_ok-first_lists.ensures (rw c.rows.ensures.rows sound)))
