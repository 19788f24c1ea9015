use Rattle.std.proofs.Common.{◌≡◌, ◌++◌, map, sym, ap, ◌∙◌}
use Rattle.std.specs.Prelude.{flat_map}
use Rattle.graph_types.specs.Graphs.{roots_of}
use Rattle.graph_types.specs.Targets.{targets_by}
use Rattle.graph_types.specs.declared.record.ModRecord.{ModRecord}
use Rattle.graph_types.proofs.laws.one_graph.Goals as goal

pub returns : goal.returns
returns c = λ record_of entries faults one other is also.
    let members = c.one_reached_list.ensures (targets_by record_of) (flat_map (λ files. files) entries) is.members also.members is.ascending also.ascending is.reached also.reached in
    let records : one.records ≡ other.records = is.records_are ∙ ap (map record_of) members ∙ sym also.records_are in
    let roots : one.roots ≡ other.roots = is.roots_are ∙ ap (λ records. map (roots_of records) entries) records ∙ sym also.roots_are in
    let found : one.faults ≡ other.faults =
    is.faults_are ∙ ap (λ records. faults ++ flat_map (λ (rec : ModRecord). rec.faults) records) records ∙ sym also.faults_are in
    λ i. record { records = records i; roots = roots i; faults = found i }
