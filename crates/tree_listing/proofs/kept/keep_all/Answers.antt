use Rattle.std.proofs.Common.{◌≡◌, sym, ◌∙◌, ap, ◌++◌, ◌∷◌}
use Rattle.std.proofs.lemmas.Result.{err_from_is_err_and}
use Rattle.std.specs.Vec.Iter.{into_iter_items}
use Rattle.tree_listing.proofs.Keeping.{yielded-items, later_end}
use Rattle.tree_listing.proofs.kept.keep_all.Goals as goal

pub returns-in_err-keep : goal.returns-in_err-keep
returns-in_err-keep c =
    let p = err_from_is_err_and c.from_residual.result c.from_residual.ensures.1 in
    let left = yielded-items _ _ _ c.loop-entry.yielded_by in
    let step = c.in-Some.ensures.steps.0 in
    let start : into_iter_items c.into_iter-entry-iterator.result ≡ c.args.entries.items = c.into_iter-entry-iterator.ensures.into_iter_gives.0 in
    let split : c.args.entries.items ≡ c.loop-entry.yielded ++ c.in-Some.entry ∷ c.next.new.self.rest.items = sym start ∙ left ∙ ap (λ xs. c.loop-entry.yielded ++ xs) step in
    rw (p.1, p.2) (later_end _ _ _ _ _ _ _ _ split c.loop-entry.invariant c.in_err-keep.ensures)
