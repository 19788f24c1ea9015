use Rattle.std.proofs.Common.{◌&&◌, ap, ◌∙◌}
use Rattle.chunk_graph.specs.Moves.{same_row}
use Rattle.chunk_graph.proofs.Rows.{row_test}
use Rattle.chunk_graph.proofs.merging.are_equal.Goals as goal

pub returns-then-may_merge : goal.returns-then-may_merge
returns-then-may_merge c =
    row_test _ _ _ c.same.ensures ∙ ap (λ t. t && same_row c.args.other.now.mods c.args.chunk.now.mods) c.if-may_merge.ensures
