use Rattle.std.proofs.Common.{◌≡◌, ◌++◌, map, take, drop}
use Rattle.chunk_graph.specs.Moves.{needed}
use Rattle.chunk_graph.proofs.emptying.leave_out_empty.Given as goal

abbrev pub invariant-loop-place : goal.invariant-loop-place
invariant-loop-place l = l.groups.items ≡ map (needed l.chunks) (take l.place l.initial.groups.items) ++ drop l.place l.initial.groups.items
