use Rattle.std.proofs.Common.{◌≡◌, string_bytes, take}
use Rattle.std.specs.List.{flat_map}
use Rattle.asset_names.specs.Template.{letter_for}
use Rattle.asset_names.proofs.reading.with_letters.Given as goal

abbrev pub invariant-loop-part : goal.invariant-loop-part
invariant-loop-part l = string_bytes l.text ≡ flat_map letter_for (take l.part-index l.parts)
