use Rattle.std.proofs.Common.{◌≡◌, ◌++◌, length, map}
use Rattle.path_text.specs.Child.{child_of}
use Rattle.resolve_path.specs.Places.{first_number}
use Rattle.resolve_path.proofs.as_file.look_with.Given as goal

-- the first is among those left
abbrev pub invariant-loop-left : goal.invariant-loop-left
invariant-loop-left l =
    first_number l.listing.files (map (λ ending. child_of l.folder l.name ++ ending) l.left) ≡ first_number l.listing.files (map (λ ending. child_of l.folder l.name ++ ending) l.endings)

abbrev pub decreases-loop-left : goal.decreases-loop-left
decreases-loop-left l = length l.left
