use Rattle.std.proofs.Common.{lit<, rules, tests}
use Rattle.std.proofs.lemmas.Iterator.Search.{any_from_yields_List}
use Rattle.std.proofs.lemmas.Iterator.Splits.{YieldsList-from_str_split}
use Rattle.pkg_exports.specs.Segments.{is_refused_segment}
use Rattle.pkg_exports.proofs.segment.has_refused_segment.Goals as goal

pub returns : goal.returns
returns c =
    any_from_yields_List is_refused_segment _ _ _ c.any.ensures.ran
    (YieldsList-from_str_split 47 c.args.text.now (lit< tt) c.split.ensures.text c.split.ensures.has_more c.split.ensures.pattern)
    (λ x b q k. search (rules, tests))
