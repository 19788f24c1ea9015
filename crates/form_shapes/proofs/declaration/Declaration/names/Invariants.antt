use Rattle.std.proofs.Common.{◌≡◌, ◌∷◌, map, take}
use Rattle.form_shapes.specs.Parts.{front}
use Rattle.form_shapes.specs.Variables.{first_text, separates}
use Rattle.form_shapes.proofs.declaration.Declaration.names.Given as goal

abbrev pub invariant-loop-tail : goal.invariant-loop-tail
invariant-loop-tail l =
    map (λ name. name.now) l.names.items
    ≡ map (λ tail. first_text l.source.text.now (front (separates l.source.text.now) tail))
    (l.self.rest.now ∷ map (λ tail. tail.now) (take l.tail-index l.tail-items))
