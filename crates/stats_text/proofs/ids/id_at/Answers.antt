use Rattle.std.proofs.Common.{None, get_or, length, ap, ◌∙◌, arith}
use Rattle.std.proofs.lemmas.List.FromFn.{get_or-map-range_with_len, length-map-range_with_len}
use Rattle.chunk_graph.specs.Moves.{id_of}
use Rattle.stats_text.proofs.ids.id_at.Goals as goal

pub bounds-ids-c : goal.bounds-ids-c
bounds-ids-c c =
    let s = c.args.chunks.now in
    omega (arith, ap length c.requires, length-map-range_with_len (id_of s) 0 (length s.chunks), c.if-c-count.true, c.count.ensures.count)

pub returns-then-c-count : goal.returns-then-c-count
returns-then-c-count c =
    let s = c.args.chunks.now in
    let i = c.args.c.0 in
    ap (λ ids. get_or ids i None) c.requires
    ∙ get_or-map-range_with_len (id_of s) 0 (length s.chunks) i i None (omega (arith, c.if-c-count.true, c.count.ensures.count)) (omega arith)
