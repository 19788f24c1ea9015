use Rattle.std.proofs.Common.{length, ap, ◌∙◌}
use Rattle.std.specs.Prelude.{flat_map}
use Rattle.std.proofs.lemmas.List.{length-map}
use Rattle.graph_types.specs.Graphs.{roots_of}
use Rattle.chunk_groups.specs.Grouped.{net_of, numbers}
use Rattle.chunk_groups.specs.ChunkGroups.{groups_of}
use Rattle.chunk_groups.proofs.FilesFound.{modules-found}
use Rattle.chunk_groups.proofs.GraphGrown.{graph-grown, loads}
use Rattle.chunk_groups.proofs.laws.each_group_of_a_graph_has_a_history.Goals as goal

pub returns : goal.returns
returns c = λ record_of files faults graph entries own is lists g within.
    let grown = graph-grown graph entries (ap length is.roots_are ∙ length-map files (roots_of graph.records) ∙ lists) (modules-found record_of files faults graph own is) in
    c.each_group_has_a_history.ensures (net_of graph (groups_of graph entries)) (loads graph.records) (flat_map numbers graph.roots) grown g within
