use Rattle.std.proofs.Common.{rules}
use Rattle.std.proofs.lemmas.Iterator.Search.{all_from_yields_List}
use Rattle.std.proofs.lemmas.Iterator.Splits.{YieldsList-from_slice_split}
use borrow.Author.Tests.{tests}
use Rattle.magic_comments.specs.Pairs.{is_comma, is_pair}
use Rattle.magic_comments.proofs.pair.all_pairs.Goals as goal

pub returns : goal.returns
returns c = all_from_yields_List (is_pair c.args.content.now) _ _ _ c.all.ensures.ran
    (YieldsList-from_slice_split _ (is_comma c.args.content.now) c.args.tokens.now
    c.split.ensures.rest c.split.ensures.done c.split.ensures.closure (λ x b q k. search (rules, tests)))
    (λ x b q k. search (rules, tests))
