use Rattle.std.proofs.Common.{lit<, rules, tests, bytes_eq}
use Rattle.std.proofs.lemmas.Iterator.Search.{any_from_yields_List}
use Rattle.std.proofs.lemmas.Iterator.Splits.{YieldsList-from_str_split}
use Rattle.graph_types.proofs.condition.has_segment.Goals as goal

pub returns : goal.returns
returns c =
    any_from_yields_List (λ segment. bytes_eq segment c.args.name.now) _ _ _ c.any.ensures.ran
    (YieldsList-from_str_split 47 c.args.folder.now (lit< tt) c.split.ensures.text c.split.ensures.has_more c.split.ensures.pattern)
    (λ x b q k. search (rules, tests))
