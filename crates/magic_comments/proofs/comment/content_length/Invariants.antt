use Rattle.std.proofs.Common.{◌≡◌, ◌+◌, length}
use Rattle.magic_comments.specs.Comments.{content_from}
use Rattle.magic_comments.proofs.comment.content_length.Given as goal

abbrev pub invariant-loop-rest : goal.invariant-loop-rest
invariant-loop-rest l = (content_from 0 l.bytes ≡ content_from l.count l.rest) × (l.count + length l.rest ≡ length l.bytes)

abbrev pub decreases-loop-rest : goal.decreases-loop-rest
decreases-loop-rest l = length l.rest
