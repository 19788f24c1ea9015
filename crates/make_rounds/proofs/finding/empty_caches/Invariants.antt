use Rattle.std.proofs.Common.{◌≡◌, [], replicate}
use Rattle.make_rounds.proofs.finding.empty_caches.Given as goal

abbrev pub invariant-loop : goal.invariant-loop
invariant-loop l = l.caches.items ≡ replicate l.counter []
