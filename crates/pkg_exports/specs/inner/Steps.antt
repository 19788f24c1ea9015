-- One step of each walk (this project).
use Rattle.std.specs.Prelude.{ℕ, List, Option, Some, None, if◌then◌else◌}
use Rattle.json_order.specs.declared.tree.JsonPair.{JsonPair}
use Rattle.pkg_exports.specs.declared.outcome.Outcome.{Outcome}
use Rattle.pkg_exports.specs.Keys.{is_match, outranks}
use Rattle.pkg_exports.specs.Targets.{is_null_or_bad}

-- the last member of a list that is null or a bad target, after one more member
abbrev pub later_of : Outcome → Outcome → Outcome
later_of last outcome = if is_null_or_bad outcome then outcome else last

-- the greater of the greatest so far and a member that matches
abbrev pub greater_of : Option JsonPair → JsonPair → JsonPair
greater_of None pair = pair
greater_of (Some best) pair = if outranks pair.key best.key then pair else best

-- the greatest after one more member
abbrev pub better_of : List ℕ → Option JsonPair → JsonPair → Option JsonPair
better_of subpath best pair = if is_match subpath pair.key then Some (greater_of best pair) else best
