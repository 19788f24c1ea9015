use Rattle.std.proofs.Common.{◌≡◌, drop}
use Rattle.magic_comments.specs.Pairs.{are_apart}
use Rattle.magic_comments.proofs.pair.are_apart.Given as goal

abbrev pub invariant-loop-token : goal.invariant-loop-token
invariant-loop-token l = are_apart l.content 0 l.tokens ≡ are_apart l.content l.from (drop l.token-index l.tokens)
