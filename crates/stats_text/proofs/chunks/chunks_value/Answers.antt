use Rattle.std.proofs.Common.{◌++◌, ap, ◌∙◌, sym}
use Rattle.std.specs.Prelude.{option_to_list}
use Rattle.stats_text.specs.Stats.{chunk_told}
use Rattle.stats_text.proofs.Numbered.{filter_map_range-more}
use Rattle.stats_text.proofs.chunks.chunks_value.Goals as goal

pub loop-place-preserved : goal.loop-place-preserved
loop-place-preserved c =
    let told = chunk_told c.args.graph.now.records c.args.chunks.now in
    let place = c.loop-place.place in
    c.in_ok-add_chunk.ensures ∙ ap (λ front. front ++ option_to_list (told place)) c.loop-place.invariant ∙ sym (filter_map_range-more told place)
