use Rattle.std.proofs.Common.{◌∙◌, ap, sym, map, rules, arith}
use Rattle.json_order.specs.declared.tree.JsonNode.TheViews.{the_lemmas}
use Rattle.pkg_exports.specs.Keys.{is_met}
use Rattle.pkg_exports.specs.Targets.{outcome_of}
use Rattle.pkg_exports.proofs.Walks.{bad_key_rule, behind_next, from_left, from_left_within, list_ends, list_goes_on, list_whole, object_end, object_found, object_goes_on, outcome_object, rest_is}
use Rattle.pkg_exports.proofs.target.+target.Goals as goal

pub object_outcome-outcome_of-requires : goal.object_outcome-outcome_of-requires
object_outcome-outcome_of-requires t c =
    let is = from_left c.args.pairs.now c.loop-left.left.now c.pair-item.result _ c.loop-left.invariant.behind c.pair-item.is in
    let within = from_left_within c.args.pairs.now c.loop-left.left.now c.pair-item.result _ c.loop-left.invariant.behind c.pair-item.is (omega (arith, c.in-len1-up.len_at_least)) in
    search (rules, the_lemmas)

pub list_outcome-loop-member-init : goal.list_outcome-loop-member-init
list_outcome-loop-member-init t c = list_whole (map (outcome_of c.args.star.now c.args.conditions.now) c.args.members.now)

pub list_outcome-returns-then-ends_list : goal.list_outcome-returns-then-ends_list
list_outcome-returns-then-ends_list t c =
    list_ends c.args.star.now c.args.conditions.now c.args.members.now c.loop-member.member-index c.loop-member.last c.loop-member.invariant
    c.member-item.result (omega arith) c.member-item.is c.in_ok-outcome.outcome c.in_ok-outcome.ensures (sym c.ends_list.ensures ∙ c.if-ends_list.true)

pub list_outcome-loop-member-preserved : goal.list_outcome-loop-member-preserved
list_outcome-loop-member-preserved t c =
    rw c.later-last.ensures
    (list_goes_on c.args.star.now c.args.conditions.now c.args.members.now c.loop-member.member-index c.loop-member.last c.loop-member.invariant
    c.member-item.result (omega arith) c.member-item.is c.in_ok-outcome.outcome c.in_ok-outcome.ensures (sym c.ends_list.ensures ∙ c.if-ends_list.false))

pub object_outcome-returns-then-has_array_index : goal.object_outcome-returns-then-has_array_index
object_outcome-returns-then-has_array_index t c = bad_key_rule c.args.star.now c.args.conditions.now c.args.pairs.now (sym c.has_array_index.ensures ∙ c.if-has_array_index.true)

pub object_outcome-returns-then-is_defined : goal.object_outcome-returns-then-is_defined
object_outcome-returns-then-is_defined t c =
    object_found c.args.star.now c.args.conditions.now c.args.pairs.now c.loop-left.left.now c.loop-left.invariant.same c.pair-item.result (omega arith) c.pair-item.is
    (ap (is_met c.args.conditions.now) (sym c.get.ensures) ∙ sym c.is_met.ensures ∙ c.if-is_met.true) c.in_ok-outcome.outcome c.in_ok-outcome.ensures
    (sym c.is_defined.ensures ∙ c.if-is_defined.true) (sym c.has_array_index.ensures ∙ c.if-has_array_index.false)

pub object_outcome-loop-left-preserved-else-is_defined : goal.object_outcome-loop-left-preserved-else-is_defined
object_outcome-loop-left-preserved-else-is_defined t c =
    record {
      same = rw (rest_is c.loop-left.left.now)
          (object_goes_on c.args.star.now c.args.conditions.now c.args.pairs.now c.loop-left.left.now c.loop-left.invariant.same c.pair-item.result (omega arith) c.pair-item.is
          (ap (is_met c.args.conditions.now) (sym c.get.ensures) ∙ sym c.is_met.ensures ∙ c.if-is_met.true) c.in_ok-outcome.outcome c.in_ok-outcome.ensures
          (sym c.is_defined.ensures ∙ c.if-is_defined.false));
      behind = rw (rest_is c.loop-left.left.now) (behind_next c.args.pairs.now c.loop-left.left.now c.loop-left.invariant.behind (omega arith));
    }

pub object_outcome-returns : goal.object_outcome-returns
object_outcome-returns t c =
    object_end c.args.star.now c.args.conditions.now c.args.pairs.now c.loop-left.left.now c.loop-left.invariant.same (omega arith) (sym c.has_array_index.ensures ∙ c.if-has_array_index.false)

pub outcome_of-returns-in-Object : goal.outcome_of-returns-in-Object
outcome_of-returns-in-Object t c =
    rw (outcome_object c.args.star.now c.args.conditions.now c.args.tree.now c.in-Object.pairs c.in-Object.is, ← c.as_slice-in-Object.ensures) c.object_outcome.ensures
