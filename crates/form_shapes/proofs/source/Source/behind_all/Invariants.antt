use Rattle.std.proofs.Common.{◌≡◌, drop}
use Rattle.form_shapes.specs.Forms.{behind_all}
use Rattle.form_shapes.proofs.source.Source.behind_all.Given as goal

abbrev pub invariant-loop-part : goal.invariant-loop-part
invariant-loop-part l =
    behind_all l.self.text.now l.self.tokens.now l.parts l.fn.at
    ≡ behind_all l.self.text.now l.self.tokens.now (drop l.part-index l.parts) l.at
