use Rattle.std.proofs.Common.{◌≡◌, ◌++◌, drop}
use Rattle.pkg_manifest.specs.Manifest.{mains_of}
use Rattle.pkg_manifest.proofs.fields.mains_of.Given as goal

abbrev pub invariant-loop-member : goal.invariant-loop-member
invariant-loop-member l = l.mains ++ mains_of (drop l.member-index l.members) ≡ mains_of l.members
