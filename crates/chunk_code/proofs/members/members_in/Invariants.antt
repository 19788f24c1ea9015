use Rattle.std.proofs.Common.{◌≡◌, ◌-◌, ◌++◌, length}
use Rattle.chunk_code.specs.Texts.{members_in}
use Rattle.chunk_code.proofs.Rows.{members_after}
use Rattle.chunk_code.proofs.members.members_in.Given as goal

abbrev pub invariant-loop-place : goal.invariant-loop-place
invariant-loop-place l = l.members.items ++ members_after l.at l.row ≡ members_in l.row

abbrev pub decreases-loop-place : goal.decreases-loop-place
decreases-loop-place l = length l.row - l.at
