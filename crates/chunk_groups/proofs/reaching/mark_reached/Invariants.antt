use Rattle.std.proofs.Common.{◌≡◌, ◌+◌, not, length}
use Rattle.std.specs.List.{count_by}
use Rattle.chunk_groups.specs.Grouped.{numbers, targets_at}
use Rattle.chunk_groups.proofs.Marks.{IsMarking}
use Rattle.chunk_groups.proofs.reaching.mark_reached.Given as goal

abbrev pub invariant-loop-m : goal.invariant-loop-m
invariant-loop-m l = (length l.row ≡ length l.graph.records) × IsMarking (targets_at l.graph.records) (numbers l.roots) l.row l.waiting.items

abbrev pub decreases-loop-m : goal.decreases-loop-m
decreases-loop-m l = count_by not l.row + length l.waiting.items
