use Rattle.std.proofs.Common.{ap, length, ◌∙◌, arith}
use Rattle.std.specs.Prelude.{nat_lt}
use Rattle.chunk_groups.specs.ChunkGroups.{groups_of, numbered_blocks}
use Rattle.chunk_groups.proofs.Counted.{same-test}
use Rattle.chunk_groups.proofs.Filed.{groups-count}
use Rattle.chunk_groups.proofs.grouping.are_too_many.Goals as goal

pub returns : goal.returns
returns c =
    let graph = c.args.graph.now in
    let count = groups-count graph c.args.entries.now (numbered_blocks graph.records) in
    let names = ap length c.requires.names in
    ap (λ limit. nat_lt limit c.saturating_add-count.result) c.number.ensures
    ∙ same-test 4_096 c.saturating_add-count.result (length (groups_of graph c.args.entries.now))
    (λ above. omega (arith, above, count, names, c.saturating_add-count.ensures, c.saturating_add.ensures, c.unnamed_count.ensures))
    (λ above. omega (arith, above, count, names, c.saturating_add-count.ensures, c.saturating_add.ensures, c.unnamed_count.ensures))
