use Rattle.std.proofs.Common.{◌≡◌, ℕ, ◌<◌, length, slice_index_or}
use Rattle.graph_types.specs.declared.record.ModRecord.{ModRecord}
use Rattle.graph_types.specs.Condition.{holds}
use Rattle.chunk_graph.specs.Chunks.{is_in}
use Rattle.split_plan.proofs.rule.tested.Given as goal

abbrev pub invariant-loop-module : goal.invariant-loop-module
invariant-loop-module l = record {
  len : length l.row ≡ length l.graph.records;
  places : (k : ℕ) (d : ModRecord) → k < l.module → is_in l.row k ≡ holds (slice_index_or l.graph.records k d).path l.test;
}
