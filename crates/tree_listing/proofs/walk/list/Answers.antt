use Rattle.std.proofs.lemmas.Result.{err_from_is_err_and}
use Rattle.tree_listing.proofs.Outcomes.{listed, not_listed}
use Rattle.tree_listing.proofs.walk.list.Goals as goal

pub returns-in_err-kept-clause-told : goal.returns-in_err-kept-clause-told
returns-in_err-kept-clause-told g c = λ tree told.
    let walk = c.in_err-kept.ensures.told tree told in
    let p = err_from_is_err_and c.from_residual.result c.from_residual.ensures.1 in
    rw (p.1, p.2) (not_listed tree _ _ _ walk.no_stray walk.answer)

pub returns-clause-told : goal.returns-clause-told
returns-clause-told g c = λ tree told.
    let walk = c.in_ok-kept.ensures.told tree told in
    listed tree (g.met.R.TreeReader.tells_a_tree c.args.reader.now tree told) _ _ c.in_ok-kept.kept.items walk.no_stray walk.answer c.in_ok-kept.ensures.found c.new.result c.new.ensures.ok c.new.ensures.err
