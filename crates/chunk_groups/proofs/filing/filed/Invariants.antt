use Rattle.std.proofs.Common.{◌≡◌, ◌+◌, ◌≤◌, length}
use Rattle.chunk_groups.specs.ChunkGroups.{TellsGroups}
use Rattle.chunk_groups.specs.inner.Filing.{groups_so_far}
use Rattle.chunk_groups.proofs.filing.filed.Given as goal

abbrev pub invariant-loop-number : goal.invariant-loop-number
invariant-loop-number l = record {
  groups : l.infos.items ≡ groups_so_far l.graph l.entries l.number;
  tells : TellsGroups l.number (record { infos = l.infos.items; of_block = l.of_block.items });
  few : length l.infos.items ≤ length l.entries + length l.names + l.number;
}
