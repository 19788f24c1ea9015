use Rattle.std.proofs.Common.{◌≡◌}
use denote.Shadow.{shadow}
use denote.Text.{Utf8}
use Rattle.resolve_path.specs.Packages.{folders_from, folders_up}
use Rattle.resolve_path.specs.inner.Parts.{package_among}
use Rattle.resolve_path.proofs.upward.package_from.Given as goal

-- the nearest is among the folders left
abbrev pub invariant-loop-above : goal.invariant-loop-above
invariant-loop-above l =
    record { left : package_among l.listing.folders l.name (folders_up l.above l.folder) ≡ package_among l.listing.folders l.name (folders_from l.base); text : shadow (Utf8 l.folder) }

abbrev pub decreases-loop-above : goal.decreases-loop-above
decreases-loop-above l = l.above
