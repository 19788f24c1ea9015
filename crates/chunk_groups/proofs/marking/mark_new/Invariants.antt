use Rattle.std.proofs.Common.{take}
use Rattle.chunk_groups.specs.inner.Marking.{IsMarked}
use Rattle.chunk_groups.proofs.marking.mark_new.Given as goal

abbrev pub invariant-loop-m : goal.invariant-loop-m
invariant-loop-m l = IsMarked l.initial.row l.row l.initial.waiting.items l.waiting.items (take l.m-index l.modules)
