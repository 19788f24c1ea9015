use Rattle.std.proofs.Common.{◌≡◌, length, map}
use Rattle.make_core.specs.Core.{start}
use Rattle.make_core.proofs.Runs.{IsMidway}
use Rattle.make_core.proofs.run.run_events.Given as goal

-- the events so far are accepted, and the state is the one that they leave
abbrev pub invariant-loop-index : goal.invariant-loop-index
invariant-loop-index l =
    (goal.iterator-loop-index).can_next l.index-iterator ×
    (goal.iterator-loop-index).is_finite l.index-iterator ×
    (l.index-iterator.count ≡ length (map (λ p. p.1) l.yielded)) ×
    IsMidway l.plan (start l.fn.files l.fn.workers) l.fn.events.items (map (λ p. p.1) l.yielded) l.index-iterator.iter.rest.items l.state
