use Rattle.std.proofs.Common.{◌≡◌, length, map}
use Rattle.std.specs.List.{range_with_len}
use Rattle.stats_text.specs.inner.Loaded.{loaded_before}
use Rattle.stats_text.proofs.loaded.all_loaded.Given as goal

abbrev pub invariant-loop-b : goal.invariant-loop-b
invariant-loop-b l = l.lists.items ≡ map (loaded_before l.b l.groups.of_block l.graph.records) (range_with_len 0 (length l.graph.records))
