use Rattle.std.proofs.Common.{◌≡◌, ◌++◌, drop}
use Rattle.chunk_code.proofs.Lines.{members_from}
use Rattle.chunk_code.proofs.chunk.add_members.Given as goal

-- what is written and what is left to write are the whole
abbrev pub invariant-loop-place : goal.invariant-loop-place
invariant-loop-place l = l.text.items ++ members_from l.view (drop l.place l.members) ≡ l.fn.text.items ++ members_from l.view l.members
