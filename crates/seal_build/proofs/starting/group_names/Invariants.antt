use Rattle.std.proofs.Common.{◌≡◌, take}
use Rattle.seal_build.specs.Final.{group_names}
use Rattle.seal_build.proofs.starting.group_names.Given as goal

abbrev pub invariant-loop-g : goal.invariant-loop-g
invariant-loop-g l = l.names.items ≡ group_names (take l.g l.groups.infos)
