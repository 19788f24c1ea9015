use Rattle.std.proofs.Common.{ℕ, ◌<◌, IsSome}
use Rattle.make_core.specs.Core.{value_of}
use Rattle.make_core.proofs.quiet.are_finished.Given as goal

abbrev pub invariant-loop-file : goal.invariant-loop-file
invariant-loop-file l = (k : ℕ) → k < l.file → IsSome (value_of l.owners k) → IsSome (value_of l.done k)
