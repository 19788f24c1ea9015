use Rattle.std.proofs.Common.{◌≡◌, map, take}
use Rattle.chunk_groups.specs.ChunkGroups.{entry_group, numbered_entries}
use Rattle.chunk_groups.specs.inner.Filing.{AreRoots}
use Rattle.chunk_groups.proofs.filing.entry_groups.Given as goal

abbrev pub invariant-loop-number : goal.invariant-loop-number
invariant-loop-number l = record {
  groups : l.infos.items ≡ map (entry_group l.graph.roots) (take l.number (numbered_entries l.entries));
  roots : AreRoots l.graph l.number;
}
