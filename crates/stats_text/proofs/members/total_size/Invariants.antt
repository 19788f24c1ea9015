use Rattle.std.proofs.Common.{◌≡◌, ◌*◌, ◌≤◌, take}
use Rattle.stats_text.specs.Lists.{size_of_modules}
use Rattle.stats_text.proofs.members.total_size.Given as goal

abbrev pub invariant-loop-m : goal.invariant-loop-m
invariant-loop-m l = (l.total ≡ size_of_modules l.graph.records (take l.m-index l.modules)) × (l.total ≤ 4_194_304 * l.m-index)
