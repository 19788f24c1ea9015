use Rattle.std.proofs.Common.{◌≡◌, drop, map}
use Rattle.magic_comments.specs.Magic.{read_pairs}
use Rattle.magic_comments.proofs.magic.Magic.read_pairs.Given as goal

abbrev pub invariant-loop-pair : goal.invariant-loop-pair
invariant-loop-pair l =
    read_pairs l.content l.at l.initial.self (map (λ pair. pair.now) l.pairs)
    ≡ read_pairs l.content l.at l.self (map (λ pair. pair.now) (drop l.pair-index l.pairs))
