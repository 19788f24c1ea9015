use Rattle.std.proofs.Common.{◌≡◌, ◌++◌, map, take, drop}
use Rattle.chunk_graph.specs.Moves.{gone_if_empty}
use Rattle.chunk_graph.proofs.emptying.remove_empty.Given as goal

abbrev pub invariant-loop-place : goal.invariant-loop-place
invariant-loop-place l = l.chunks.items ≡ map gone_if_empty (take l.place l.initial.chunks.items) ++ drop l.place l.initial.chunks.items
