use Rattle.std.proofs.Common.{◌≡◌, ◌∷◌, [], map}
use Rattle.std.specs.List.{range_with_len}
use Rattle.chunk_graph.specs.Moves.{chunk_no}
use Rattle.chunk_graph.proofs.starting.first_lists.Given as goal

abbrev pub invariant-loop-group : goal.invariant-loop-group
invariant-loop-group l = l.lists.items ≡ map (λ g. chunk_no g ∷ []) (range_with_len 0 l.group)
