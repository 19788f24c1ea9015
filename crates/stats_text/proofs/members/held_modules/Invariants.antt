use Rattle.std.proofs.Common.{◌≡◌, ◌≤◌, ◌-◌, length, map}
use Rattle.std.specs.List.{filter, range_with_len}
use Rattle.chunk_graph.specs.Chunks.{is_in}
use Rattle.graph_types.specs.Modules.{module_no}
use Rattle.stats_text.proofs.members.held_modules.Given as goal

abbrev pub invariant-loop-place : goal.invariant-loop-place
invariant-loop-place l = record {
  bound : l.at ≤ length l.row;
  held : l.modules.items ≡ map module_no (filter (is_in l.row) (range_with_len 0 l.at));
}

abbrev pub decreases-loop-place : goal.decreases-loop-place
decreases-loop-place l = length l.row - l.at
