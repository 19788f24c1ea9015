use Rattle.std.proofs.Common.{◌≡◌, take}
use Rattle.std.specs.Prelude.{flat_map, IsOk}
use Rattle.std.specs.List.{AllByRecursion}
use Rattle.build_round.specs.inner.Parts.{kept_by}
use Rattle.build_round.proofs.answering.answer.Given as goal

abbrev pub invariant-loop-part : goal.invariant-loop-part
invariant-loop-part g l = record {
  kept : l.kept.items ≡ flat_map kept_by (take l.part-index l.parts);
  well : AllByRecursion (λ part. IsOk part.end) (take l.part-index l.parts);
}
