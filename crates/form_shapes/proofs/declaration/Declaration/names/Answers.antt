use Rattle.std.proofs.Common.{◌∙◌, arith}
use Rattle.form_shapes.proofs.DeclarationLemmas.{names_end}
use Rattle.form_shapes.proofs.declaration.Declaration.names.Goals as goal

pub returns : goal.returns
returns c =
    c.loop-tail.invariant
    ∙ names_end c.args.source.text.now c.args.source.tokens.now c.args.self.now _ _ c.requires (cc) (omega (arith, c.loop-tail-test.false))
