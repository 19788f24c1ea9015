use Rattle.std.proofs.Common.{◌≡◌, ◌≤◌, length, take}
use Rattle.std.specs.Prelude.{filter}
use Rattle.chunk_groups.specs.ChunkGroups.{has_no_name, numbered_blocks}
use Rattle.chunk_groups.proofs.grouping.unnamed_count.Given as goal

abbrev pub invariant-loop-block : goal.invariant-loop-block
invariant-loop-block l = record {
  counted : l.count ≡ length (filter (has_no_name l.graph.records) (take l.block-index (numbered_blocks l.graph.records)));
  few : l.count ≤ l.block-index;
}
