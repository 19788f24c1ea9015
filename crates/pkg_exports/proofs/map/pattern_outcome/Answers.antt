use Rattle.pkg_exports.proofs.Patterns.{pattern_none, pattern_some}
use Rattle.pkg_exports.proofs.map.pattern_outcome.Goals as goal

pub returns-in-Some-exported_part : goal.returns-in-Some-exported_part
returns-in-Some-exported_part c =
    rw (← (pattern_some c.args.subpath.now c.args.conditions.now c.args.pairs.now c.in-Some.pair.now c.in-Some.ensures c.in-Some-exported_part.part.now
    (rw c.get.ensures at c.in-Some-exported_part.ensures))) c.outcome_of.ensures

pub returns-in-None : goal.returns-in-None
returns-in-None c =
    pattern_none c.args.subpath.now c.args.conditions.now c.args.pairs.now c.in-Some.pair.now c.in-Some.ensures (rw c.get.ensures at c.in-None.ensures)
