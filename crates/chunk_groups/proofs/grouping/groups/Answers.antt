use Rattle.std.proofs.Common.{List, ap, length, subst, sym, arith}
use Rattle.graph_types.specs.declared.groups.GroupInfo.{GroupInfo}
use Rattle.chunk_groups.specs.ChunkGroups.{groups_of, numbered_blocks}
use Rattle.chunk_groups.specs.Grouped.{AreGroupsOver}
use Rattle.chunk_groups.proofs.Counted.{not-above}
use Rattle.chunk_groups.proofs.Filed.{groups-count}
use Rattle.chunk_groups.proofs.Ranges.{groups-over}
use Rattle.chunk_groups.proofs.grouping.groups.Goals as goal

pub filed-requires-clause-few : goal.filed-requires-clause-few
filed-requires-clause-few c =
    let graph = c.args.graph.now in
    let entries = c.as_slice-entries.result.now in
    omega (arith, not-above 4_096 (length (groups_of graph entries)) c.if-are_too_many.ensures, groups-count graph entries (numbered_blocks graph.records), ap length c.deref-3.ensures.value, ap length c.in_ok-names.ensures)

pub returns-clause-over : goal.returns-clause-over
returns-clause-over c =
    let graph = c.args.graph.now in
    subst (λ (infos : List GroupInfo). AreGroupsOver graph infos) (sym c.in_ok-filed.ensures.groups) (groups-over graph c.as_slice-entries.result.now c.in_ok-filed.ensures.roots)
