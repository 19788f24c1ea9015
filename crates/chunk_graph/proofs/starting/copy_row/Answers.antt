use Rattle.std.proofs.Common.{◌||◌, false, replicate, ap, ◌∙◌}
use Rattle.std.specs.Simd.Lanes.{zip2}
use Rattle.chunk_graph.proofs.Rows.{union-blank}
use Rattle.chunk_graph.proofs.starting.copy_row.Goals as goal

pub returns : goal.returns
returns c =
    c.union_with.ensures.row ∙ ap (λ r. zip2 (λ x y. x || y) r c.args.row.now) (c.in_ok-copy.ensures ∙ ap (λ n. replicate n false) c.len.ensures) ∙ union-blank c.args.row.now
