use Rattle.std.proofs.Common.{ℕ, Bool}
use Rattle.graph_types.specs.Reached.{HoldsAll}
use Rattle.make_rounds.specs.inner.Answered.{numbers_of}
use Rattle.make_rounds.specs.inner.Counting.{IsAllowed}
use Rattle.make_rounds.specs.inner.Found.{IsCounted, marked}
use Rattle.make_rounds.proofs.found.Found.add.Given as goal

abbrev pub invariant-loop-file : goal.invariant-loop-file
invariant-loop-file l = record {
  counted : IsCounted l.listing.files l.self;
  allowed : IsAllowed l.self.counts;
  among : (set : ℕ → Bool) → HoldsAll set (marked l.fn.self.marks) → HoldsAll set (numbers_of l.files) → HoldsAll set (marked l.self.marks);
}
