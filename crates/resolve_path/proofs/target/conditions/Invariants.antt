use Rattle.std.proofs.Common.{◌≡◌, take}
use Rattle.resolve_path.proofs.target.conditions.Given as goal

-- the conditions so far
abbrev pub invariant-loop-condition : goal.invariant-loop-condition
invariant-loop-condition l = l.conditions.items ≡ take l.condition-index l.config.conditions
