use Rattle.std.proofs.Common.{rules}
use Rattle.std.proofs.lemmas.Iterator.Search.{all_from_yields_List}
use Rattle.std.proofs.lemmas.Iterator.Splits.{YieldsList-from_slice_split}
use borrow.Author.Tests.{tests}
use Rattle.form_shapes.specs.Variables.{separates}
use Rattle.form_shapes.specs.Variables.{begins_with_name}
use Rattle.form_shapes.proofs.variables.are_named.Goals as goal

pub returns : goal.returns
returns c = all_from_yields_List (begins_with_name c.args.text.now) _ _ _ c.all.ensures.ran
    (YieldsList-from_slice_split _ (separates c.args.text.now) c.args.tokens.now
    c.split.ensures.rest c.split.ensures.done c.split.ensures.closure (λ x b q k. search (rules, tests)))
    (λ x b q k. search (rules, tests))
