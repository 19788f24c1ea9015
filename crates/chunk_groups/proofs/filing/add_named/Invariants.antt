use Rattle.std.proofs.Common.{◌≡◌, [], ◌++◌, map, take}
use Rattle.std.specs.Prelude.{Some}
use Rattle.chunk_groups.specs.ChunkGroups.{loaded_by}
use Rattle.chunk_groups.proofs.filing.add_named.Given as goal

abbrev pub invariant-loop-name : goal.invariant-loop-name
invariant-loop-name l = l.infos.items ≡ l.fn.infos.items ++ map (λ name. loaded_by (Some name) []) (take l.name-index l.names)
