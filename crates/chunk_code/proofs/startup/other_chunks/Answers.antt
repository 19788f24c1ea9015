use Rattle.std.proofs.Common.{◌==◌, not, rules, ap, ◌∙◌}
use Rattle.std.proofs.lemmas.Fn.{filter_same}
use Rattle.std.specs.Prelude.{filter}
use Rattle.pack_util.specs.declared.number.ChunkNo.{ChunkNo}
use Rattle.chunk_code.proofs.startup.other_chunks.Goals as goal

pub returns : goal.returns
returns c =
    let is_other = λ (chunk : ChunkNo). not (chunk.0 == c.args.g.0) in
    filter_same _ is_other _ (λ x b f k. search rules) _ _ c.retain.ensures.filtered
    ∙ ap (filter is_other) (c.in_ok-others.ensures.items ∙ c.chunks.ensures)
