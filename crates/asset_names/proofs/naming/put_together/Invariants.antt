use Rattle.std.proofs.Common.{◌≡◌, string_bytes, take}
use Rattle.std.specs.List.{flat_map}
use Rattle.std.specs.Option.{option_copied}
use Rattle.asset_names.specs.inner.Shown.{shown_with}
use Rattle.asset_names.proofs.naming.put_together.Given as goal

abbrev pub invariant-loop-part : goal.invariant-loop-part
invariant-loop-part l =
    string_bytes l.text ≡ flat_map (shown_with (option_copied l.name) l.id l.hash) (take l.part-index l.parts)
