use Rattle.std.proofs.Common.{◌≡◌, take}
use Rattle.make_rounds.specs.inner.Counting.{IsAllowed, counts_of}
use Rattle.make_rounds.proofs.counts.check_limits.Given as goal

abbrev pub invariant-loop-record : goal.invariant-loop-record
invariant-loop-record l = record { counts : l.counts ≡ counts_of (take l.record-index l.records); allowed : IsAllowed l.counts }
