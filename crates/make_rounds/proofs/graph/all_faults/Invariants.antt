use Rattle.std.proofs.Common.{◌≡◌, ◌++◌, take}
use Rattle.std.specs.Prelude.{flat_map}
use Rattle.graph_types.specs.declared.record.ModRecord.{ModRecord}
use Rattle.make_rounds.proofs.graph.all_faults.Given as goal

abbrev pub invariant-loop-record : goal.invariant-loop-record
invariant-loop-record l = l.all.items ≡ l.fn.faults.items ++ flat_map (λ (rec : ModRecord). rec.faults) (take l.record-index l.records)
