use Rattle.std.proofs.Common.{◌&&◌, not, ap, ◌∙◌}
use Rattle.chunk_graph.specs.Chunks.{chunk_at}
use Rattle.chunk_graph.specs.Moves.{same_row}
use Rattle.chunk_graph.proofs.Rows.{row_test}
use Rattle.split_chunks.proofs.reusing.is_reusable.Goals as goal

pub returns : goal.returns
returns c =
    let own = chunk_at c.args.state.now c.args.place in
    let modules = c.args.x.now.modules in
    row_test _ _ _ c.same.ensures ∙ ap (λ mods. same_row mods modules) c.mods.ensures.mods
    ∙ ap (λ e. not e && same_row own.mods modules) c.if-is_entry.ensures
    ∙ ap (λ b. b && (not own.entry && same_row own.mods modules)) c.if-not-get.ensures
