use Rattle.std.proofs.Common.{arith, length, subst, sym}
use Rattle.std.specs.Prelude.{filter_map}
use Rattle.std.proofs.lemmas.List.{length-map}
use Rattle.graph_types.specs.Fits.{HoldsWholeRecords}
use Rattle.graph_types.specs.Modules.{module_of}
use Rattle.runs_seal.proofs.Few.{ascend, few_items, whole-records}
use Rattle.runs_seal.proofs.graphs.graph.Goals as goal

pub from_records-requires-clause-modules : goal.from_records-requires-clause-modules
from_records-requires-clause-modules c =
    let small = c.in_ok-records.ensures in
    record { ascending = ascend _ small; few = let count = small.count in omega (arith, count) }

pub from_records-requires-clause-few_items : goal.from_records-requires-clause-few_items
from_records-requires-clause-few_items c = few_items _ c.in_ok-records.ensures

pub returns-clause-whole : goal.returns-clause-whole
returns-clause-whole c = subst (HoldsWholeRecords (length c.args.entries.now)) (sym c.in_ok-graph.ensures) (whole-records _ _ (length-map c.args.entries.now (filter_map (module_of c.in_ok-records.records.items))) c.in_ok-records.ensures)
