use Rattle.std.proofs.Common.{◌≤◌, length, nat_eq, refl, sym, subst, ◌∙◌}
use Rattle.std.specs.List.{AllByRecursion, IsDistinct}
use Rattle.fault_place.specs.declared.limit.Limit.TheVariants.{Modules}
use Rattle.graph_types.specs.Edges.{HasFewItems}
use Rattle.graph_types.specs.Modules.{files_of}
use Rattle.make_rounds.specs.inner.Closed.{present}
use Rattle.make_rounds.proofs.Fits.{few_items}
use Rattle.make_rounds.proofs.Members.{distinct_records, simple_records}
use Rattle.make_rounds.proofs.closing.finish.Goals as goal

pub check_limits-requires : goal.check_limits-requires
check_limits-requires c =
    let slots = c.in_ok-owners.slots.items in
    subst (AllByRecursion HasFewItems) (sym (c.deref.ensures.value ∙ c.in_ok-records.ensures))
    (few_items c.args.board.files (present slots) (simple_records c.args.board.files c.args.seats.items c.in_ok-owners.owners slots c.in_ok-owners.ensures c.requires.won))

pub graph-requires-clause-distinct : goal.graph-requires-clause-distinct
graph-requires-clause-distinct c =
    let slots = c.in_ok-owners.slots.items in
    subst (λ records. IsDistinct nat_eq (files_of records)) (sym c.in_ok-records.ensures) (distinct_records c.args.board.files c.args.seats.items c.in_ok-owners.owners slots c.in_ok-owners.ensures c.requires.won)

pub graph-requires-clause-few : goal.graph-requires-clause-few
graph-requires-clause-few c = subst (λ records. length records ≤ 32768) c.deref.ensures.value (c.in_ok-check_limits.ensures.within refl Modules)

pub graph-requires-clause-few_items : goal.graph-requires-clause-few_items
graph-requires-clause-few_items c =
    let slots = c.in_ok-owners.slots.items in
    subst (AllByRecursion HasFewItems) (sym c.in_ok-records.ensures)
    (few_items c.args.board.files (present slots) (simple_records c.args.board.files c.args.seats.items c.in_ok-owners.owners slots c.in_ok-owners.ensures c.requires.won))
