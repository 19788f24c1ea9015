use Rattle.std.proofs.Common.{◌&&◌, ap, ◌∙◌}
use Rattle.chunk_graph.specs.Moves.{same_row}
use Rattle.chunk_graph.proofs.Rows.{row_test}
use Rattle.split_plan.proofs.claims.is_share_at.Goals as goal

pub returns-then-get : goal.returns-then-get
returns-then-get c =
    row_test _ _ _ c.same.ensures ∙ ap (λ b. b && same_row c.args.share.now c.args.set.now) c.if-get.ensures
