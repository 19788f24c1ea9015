use Rattle.std.proofs.Common.{◌≡◌, length, drop}
use Rattle.std.specs.List.{slice_split}
use Rattle.asset_names.specs.Reading.{is_open, with_all}
use Rattle.asset_names.proofs.reading.push_all.Given as goal

-- the pieces that are left give, with the parts read so far, what all give with the first parts
abbrev pub invariant-loop-marked : goal.invariant-loop-marked
invariant-loop-marked l =
    with_all l.digits l.initial.parts.items (slice_split is_open l.text)
    ≡ with_all l.digits l.parts.items (drop (length l.yielded) (slice_split is_open l.text))
