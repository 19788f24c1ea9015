use Rattle.std.proofs.lemmas.Str.Pattern.{contains_text}
use Rattle.graph_types.proofs.Paths.{part_is}
use Rattle.graph_types.proofs.condition.has_part.Goals as goal

pub returns : goal.returns
returns c =
    part_is c.contains.result c.args.part.now c.args.path.now
    (contains_text c.contains.result c.args.part.now c.args.path.now c.contains.ensures.cases)
