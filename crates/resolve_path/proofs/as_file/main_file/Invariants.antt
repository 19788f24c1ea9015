use Rattle.std.proofs.Common.{◌≡◌, length}
use Rattle.std.specs.List.{flat_map}
use Rattle.path_text.specs.Child.{child_of}
use Rattle.resolve_path.specs.Files.{file_paths, main_file_paths}
use Rattle.resolve_path.specs.Places.{first_number}
use Rattle.resolve_path.proofs.as_file.main_file.Given as goal

-- the first is among those left
abbrev pub invariant-loop-left : goal.invariant-loop-left
invariant-loop-left l =
    first_number l.listing.files (flat_map (λ name. file_paths l.config (child_of l.folder name)) l.left) ≡ first_number l.listing.files (main_file_paths l.config l.folder)

abbrev pub decreases-loop-left : goal.decreases-loop-left
decreases-loop-left l = length l.left
