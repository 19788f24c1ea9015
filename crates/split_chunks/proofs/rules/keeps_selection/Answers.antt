use Rattle.std.proofs.Common.{◌&&◌, ◌∙◌}
use Rattle.std.specs.List.{list_all}
use Rattle.chunk_graph.specs.Chunks.{chunk_at, is_open}
use Rattle.split_plan.specs.Shares.{is_selected}
use Rattle.split_chunks.proofs.Kept.{selection-row, some_first}
use Rattle.split_chunks.proofs.rules.keeps_selection.Goals as goal

pub returns : goal.returns
returns c =
    let rule = c.args.rule.now in
    let s = c.args.state.now in
    c.are_in.ensures ∙ selection-row rule s _ c.args.chunks.now c.in_ok-allowed.ensures
    ∙ some_first c.args.chunks.now (list_all (λ d. is_open (chunk_at s d.0) && is_selected rule.select s d.0) c.args.chunks.now) c.if-is_empty.ensures
