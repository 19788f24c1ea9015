use Rattle.std.proofs.Common.{◌≡◌, sym, arith}
use Rattle.std.proofs.lemmas.List.{get_or_read}
use Rattle.chunk_graph.specs.Chunks.{no_chunk}
use Rattle.chunk_graph.proofs.StandsFor.{merged_into-found, merged_into-none}
use Rattle.chunk_graph.proofs.merging.merged_into.Goals as goal

pub returns-then-are_equal : goal.returns-then-are_equal
returns-then-are_equal c =
    let i = c.args.place in
    let j = c.loop-earlier.earlier in
    merged_into-found c.args.chunks.now i j _ _
    (get_or_read c.args.chunks.now i _ c.requires c.index-chunks-place.is no_chunk)
    (get_or_read c.args.chunks.now j _ (omega arith) c.index-chunks-earlier.is no_chunk)
    (sym c.if-not-may_merge.ensures) (omega arith) c.loop-earlier.invariant (sym c.if-are_equal.ensures)

pub returns : goal.returns
returns c =
    let i = c.args.place in
    let e : c.loop-earlier.earlier ≡ i = omega arith in
    merged_into-none c.args.chunks.now i _ (get_or_read c.args.chunks.now i _ c.requires c.index-chunks-place.is no_chunk)
    (sym c.if-not-may_merge.ensures) (λ k l. c.loop-earlier.invariant k (omega arith))
