use Rattle.std.proofs.Common.{rules}
use Rattle.std.proofs.lemmas.Iterator.Search.{all_from_yields_List}
use Rattle.std.proofs.lemmas.Iterator.Splits.{YieldsList-from_slice_split}
use borrow.Author.Tests.{tests}
use Rattle.form_shapes.specs.Source.{has_sign}
use Rattle.form_shapes.specs.declared.sign.Sign.TheVariants as sign
use Rattle.form_shapes.specs.Names.{is_specifier}
use Rattle.form_shapes.proofs.names.are_specifiers.Goals as goal

pub returns : goal.returns
returns c = all_from_yields_List (is_specifier c.args.text.now c.args.side) _ _ _ c.all.ensures.ran
    (YieldsList-from_slice_split _ (has_sign c.args.text.now sign.Comma) c.args.tokens.now
    c.split.ensures.rest c.split.ensures.done c.split.ensures.closure (λ x b q k. search (rules, tests)))
    (λ x b q k. search (rules, tests))
