use Rattle.std.proofs.Common.{◌≡◌, length}
use Rattle.std.specs.List.{flat_map}
use Rattle.resolve_path.specs.Folders.{main_at, main_paths}
use Rattle.resolve_path.specs.Places.{first_number}
use Rattle.resolve_path.proofs.as_folder.main_field.Given as goal

-- the first is among those left
abbrev pub invariant-loop-left : goal.invariant-loop-left
invariant-loop-left l =
    first_number l.listing.files (flat_map (λ field. main_paths l.config l.folder (main_at l.manifest field)) l.left)
    ≡ first_number l.listing.files (flat_map (λ field. main_paths l.config l.folder (main_at l.manifest field)) l.config.main_fields)

abbrev pub decreases-loop-left : goal.decreases-loop-left
decreases-loop-left l = length l.left
