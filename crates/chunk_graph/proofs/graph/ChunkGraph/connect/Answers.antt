use Rattle.std.proofs.Common.{◌≡◌, ◌<◌, [], false, length, ap, ◌∙◌}
use Rattle.std.proofs.lemmas.List.{get_or_read}
use Rattle.chunk_graph.specs.Chunks.{State, chunk_at}
use Rattle.chunk_graph.specs.Moves.{joined}
use Rattle.chunk_graph.proofs.Sound.{sound-connected}
use Rattle.chunk_graph.proofs.graph.ChunkGraph.connect.Goals as goal

pub invariant_of-self-2 : goal.invariant_of-self-2
invariant_of-self-2 c =
    let s : State = record { width = c.self.inside.width; chunks = c.self.inside.chunks.items; groups = c.self.inside.groups.items; entries = c.self.inside.entries; spent = c.self.inside.spent } in
    let g = c.args.g.0 in
    let i = c.args.c.0 in
    let group : g < length s.groups = rw (← c.self.view_is) at c.requires.group in
    let chunk : i < length s.chunks = rw (← c.self.view_is) at c.requires.chunk in
    let there : (chunk_at s i).gone ≡ false = rw (← c.self.view_is) at c.requires.there in
    sound-connected s g i _ c.self.invariant (c.in_ok-join.ensures.ok ∙ ap (joined i) (get_or_read s.groups g _ group c.index_mut-group.ensures.value [])) group chunk there
