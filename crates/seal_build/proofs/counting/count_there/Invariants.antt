use Rattle.std.proofs.Common.{◌≡◌, ◌≤◌, not, take}
use Rattle.std.specs.List.{count_by}
use Rattle.seal_build.proofs.counting.count_there.Given as goal

abbrev pub invariant-loop-place : goal.invariant-loop-place
invariant-loop-place l = record {
  count : l.count ≡ count_by (λ chunk. not chunk.gone) (take l.place l.chunks.chunks);
  low : l.count ≤ l.place;
}
