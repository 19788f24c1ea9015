use Rattle.std.proofs.Common.{not, slice_index_or, rules, ap, ◌∙◌}
use Rattle.std.proofs.lemmas.Fn.{filter_same}
use Rattle.chunk_graph.specs.Chunks.{no_chunk}
use Rattle.chunk_graph.specs.Moves.{is_empty, needed}
use Rattle.chunk_graph.proofs.chunk_list.ChunkList.leave_out_empty.Goals as goal

pub returns : goal.returns
returns c =
    filter_same _ (λ d. not (is_empty (slice_index_or c.args.chunks.now d.0 no_chunk))) _ (λ x b f k. search rules) _ _ c.retain.ensures.filtered
    ∙ ap (needed c.args.chunks.now) c.self.view_is
