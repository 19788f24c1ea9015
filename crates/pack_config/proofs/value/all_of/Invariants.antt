use Rattle.std.proofs.Common.{◌≡◌, List, ℕ, Bor, map, take}
use Rattle.pack_config.proofs.value.all_of.Given as goal

abbrev pub invariant-loop-word : goal.invariant-loop-word
invariant-loop-word l = l.texts.items ≡ map (λ (word : Bor (List ℕ)). word.now) (take l.word-index l.words)
