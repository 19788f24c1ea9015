use Rattle.std.proofs.Common.{◌==◌, length, get_or, arith}
use Rattle.std.proofs.lemmas.List.FromFn.{fill_by_all}
use Rattle.chunk_graph.specs.Chunks.{no_chunk, is_in}
use Rattle.chunk_graph.specs.Moves.{moved_one}
use Rattle.chunk_graph.proofs.moving.move_all.Goals as goal

pub returns : goal.returns
returns c =
    let chunks = c.args.chunks.now.items in
    fill_by_all (λ i. moved_one c.args.modules.now (i == c.args.to) (is_in c.args.from.now i) (get_or chunks i no_chunk)) c.loop-i.chunks.items (length chunks) no_chunk
    c.loop-i.invariant.len (λ k lt. c.loop-i.invariant.done k (omega arith))
