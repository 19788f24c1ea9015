use Rattle.std.proofs.Common.{◌≡◌, map, take}
use Rattle.std.specs.List.{count_by, range_with_len}
use Rattle.chunk_graph.specs.Moves.{id_of}
use Rattle.module_code.proofs.IdTable.{is_there}
use Rattle.module_code.proofs.id_table.all_ids.Given as goal

abbrev pub invariant-loop-c : goal.invariant-loop-c
invariant-loop-c l =
    (l.ids.items ≡ map (id_of l.chunks) (range_with_len 0 l.c))
    × (l.before ≡ count_by is_there (take l.c l.chunks.chunks))
