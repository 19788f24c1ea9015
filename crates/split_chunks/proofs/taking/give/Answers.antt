use Rattle.std.proofs.Common.{length, ap, ◌∙◌, arith}
use Rattle.chunk_graph.specs.Chunks.{chunk_at}
use Rattle.chunk_graph.specs.Moves.{with_closed}
use Rattle.split_plan.specs.Step.{with_joined, with_name_spent}
use Rattle.split_chunks.proofs.Takes.{moved-len, moved-gone, moved-grown}
use Rattle.split_chunks.proofs.taking.give.Goals as goal

pub join_all-requires-clause-within : goal.join_all-requires-clause-within
join_all-requires-clause-within c =
    let size = ap (λ s. length s.chunks) c.move_modules.ensures ∙ moved-len c.args.state.now c.args.x.now.modules c.in_ok-from.from c.args.made.0 in
    omega (arith, size, c.requires.within)

pub join_all-requires-clause-there : goal.join_all-requires-clause-there
join_all-requires-clause-there c =
    ap (λ s. (chunk_at s c.args.made.0).gone) c.move_modules.ensures ∙ moved-gone c.args.state.now c.args.x.now.modules c.in_ok-from.from c.args.made.0 c.args.made.0 c.requires.within ∙ c.requires.there

pub close_chunk-requires : goal.close_chunk-requires
close_chunk-requires c =
    let size = ap (λ s. length s.chunks) c.move_modules.ensures ∙ moved-len c.args.state.now c.args.x.now.modules c.in_ok-from.from c.args.made.0 in
    let joined = ap (λ s. length s.chunks) c.in_ok-join_all.ensures in
    omega (arith, size, joined, c.requires.within)

pub returns : goal.returns
returns c =
    let n = c.args.made.0 in
    let name = c.args.rule.now.name in
    let k = c.args.x.now.cache_group in
    let chunks = c.args.x.now.chunks in
    c.spend_named.ensures ∙ ap (with_name_spent name k) (c.close_chunk.ensures ∙ ap (with_closed n) (c.in_ok-join_all.ensures ∙ ap (with_joined chunks n)
    (c.move_modules.ensures ∙ moved-grown c.args.state.now c.args.x.now.modules chunks c.in_ok-from.from _ n c.in_ok-from.ensures)))
