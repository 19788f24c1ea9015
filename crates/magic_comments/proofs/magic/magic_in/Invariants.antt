use Rattle.std.proofs.Common.{◌≡◌, ◌≤◌, ◌+◌, ◌-◌, length}
use Rattle.magic_comments.specs.Comments.{block_comments}
use Rattle.magic_comments.specs.Magic.{no_magic, read_comments}
use Rattle.magic_comments.proofs.magic.magic_in.Given as goal

abbrev pub invariant-loop-rest : goal.invariant-loop-rest
invariant-loop-rest l =
    (read_comments no_magic (block_comments 0 l.at l.gap)
    ≡ read_comments l.magic (block_comments 0 (l.at + (length l.gap - length l.rest)) l.rest))
    × (length l.rest ≤ length l.gap)

abbrev pub decreases-loop-rest : goal.decreases-loop-rest
decreases-loop-rest l = length l.rest
