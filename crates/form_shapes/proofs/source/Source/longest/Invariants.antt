use Rattle.std.proofs.Common.{◌≡◌, drop}
use Rattle.std.specs.Prelude.{None}
use Rattle.form_shapes.specs.Forms.{form_at, longest_from}
use Rattle.form_shapes.proofs.source.Source.longest.Given as goal

abbrev pub invariant-loop-shape : goal.invariant-loop-shape
invariant-loop-shape l =
    let form = form_at l.self.text.now l.self.tokens.now l.at l.outside in
    longest_from form None l.shapes ≡ longest_from form l.best (drop l.shape-index l.shapes)
