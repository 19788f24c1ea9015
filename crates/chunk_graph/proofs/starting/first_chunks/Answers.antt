use Rattle.std.proofs.Common.{◌<◌, None, length, nat_lt, ◌∙◌, arith}
use Rattle.std.proofs.lemmas.List.{get_or_read}
use Rattle.chunk_graph.specs.Moves.{first_chunk}
use Rattle.chunk_graph.proofs.Lists.{push_range, same_fresh}
use Rattle.chunk_graph.proofs.starting.first_chunks.Goals as goal

pub loop-group-preserved : goal.loop-group-preserved
loop-group-preserved c =
    let g = c.loop-group.group in
    let lt : g < length c.args.names.now = omega arith in
    let name = c.in_ok-copy_name.ensures ∙ get_or_read c.args.names.now g _ lt c.index-names-group.is None in
    let mods = c.in_ok-copy_row.ensures ∙ c.row.ensures.row in
    push_range (first_chunk c.args.placed.now c.args.entries c.args.names.now) _ _ g _ c.in_ok-push.ensures.items c.loop-group.invariant
    (same_fresh (nat_lt g c.args.entries) _ _ _ _ name mods)
