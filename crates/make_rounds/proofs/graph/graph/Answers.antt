use Rattle.std.proofs.Common.{◌++◌, ◌∙◌, ap, refl, sym, subst, arith}
use Rattle.std.proofs.lemmas.List.Elements.{All-from_recursion}
use Rattle.std.proofs.lemmas.List.Sorted.{All-permutation, length_permutation}
use Rattle.std.proofs.lemmas.Result.{IfOk-weaker}
use Rattle.std.specs.Prelude.{flat_map}
use Rattle.graph_types.specs.Edges.{HasFewItems}
use Rattle.graph_types.specs.Modules.{Graph}
use Rattle.graph_types.specs.declared.record.ModRecord.{ModRecord}
use Rattle.make_rounds.specs.inner.Closed.{IsGraphFrom}
use Rattle.make_rounds.proofs.graph.graph.Goals as goal

pub from_records-requires-clause-modules : goal.from_records-requires-clause-modules
from_records-requires-clause-modules c =
    let same = length_permutation c.args.records.items c.in_file_order-records.result.items c.in_file_order-records.ensures.same in
    record { ascending = c.in_file_order-records.ensures.ascending c.requires.distinct; few = omega (arith, same, c.requires.few) }

pub from_records-requires-clause-few_items : goal.from_records-requires-clause-few_items
from_records-requires-clause-few_items c =
    All-permutation HasFewItems c.args.records.items c.in_file_order-records.result.items c.in_file_order-records.ensures.same (All-from_recursion HasFewItems c.args.records.items c.requires.few_items)

pub returns : goal.returns
returns c =
    IfOk-weaker c.from_records.result _ _
    (λ (graph : Graph) is. subst (IsGraphFrom c.args.records.items c.args.entries.now c.args.faults.items) (sym is) (record {
      same = c.in_file_order-records.ensures.same;
      ascending = c.in_file_order-records.ensures.ascending c.requires.distinct;
      roots_are = refl;
      faults_are = c.in_ok-faults.ensures ∙ ap (λ records. c.args.faults.items ++ flat_map (λ (rec : ModRecord). rec.faults) records) c.deref.ensures.value;
    }))
    c.from_records.ensures
