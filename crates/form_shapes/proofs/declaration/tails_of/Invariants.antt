use Rattle.std.proofs.Common.{◌≡◌, ◌++◌, map, length}
use Rattle.form_shapes.specs.Declaration.{AreNamedFrom}
use Rattle.form_shapes.specs.Parts.{tails}
use Rattle.form_shapes.specs.Variables.{separates}
use Rattle.form_shapes.proofs.declaration.tails_of.Given as goal

abbrev pub invariant-loop-rest : goal.invariant-loop-rest
invariant-loop-rest l =
    (tails (separates l.text) l.tokens ≡ map (λ list. list.now) l.found.lists.items ++ tails (separates l.text) l.rest)
    × AreNamedFrom l.text (map (λ list. list.now) l.found.lists.items) l.found.named

abbrev pub decreases-loop-rest : goal.decreases-loop-rest
decreases-loop-rest l = length l.rest
