use Rattle.std.proofs.Common.{ap, ◌∙◌, sym, subst}
use Rattle.std.specs.List.Sorted.{IsPermutation, IsSorted}
use Rattle.fault_place.specs.Fault.{fault_cmp, in_order}
use Rattle.fault_place.proofs.FaultOrder.{IsSorted-in_order, IsPermutation-in_order, in_order-from_sort}
use Rattle.fault_place.proofs.order.sort_faults.Goals as goal

pub returns-clause-ok : goal.returns-clause-ok
returns-clause-ok c =
    c.in_ok-faults.ensures
    ∙ in_order-from_sort c.in_ok-all.all.items c.sort.new.self.items c.in_ok-sort.ensures.sorted c.sort.ensures.stable
    ∙ ap in_order (c.in_ok-all.ensures ∙ c.deref.ensures.value)

pub returns-clause-sorted : goal.returns-clause-sorted
returns-clause-sorted c = subst (IsSorted fault_cmp) (sym (returns-clause-ok c)) (IsSorted-in_order c.args.faults.now.items)

pub returns-clause-same : goal.returns-clause-same
returns-clause-same c = subst (IsPermutation c.args.faults.now.items) (sym (returns-clause-ok c)) (IsPermutation-in_order c.args.faults.now.items)
