use Rattle.std.proofs.Common.{◌≡◌, drop}
use Rattle.form_shapes.specs.Variables.{length_from}
use Rattle.form_shapes.proofs.variables.length_behind.Given as goal

abbrev pub invariant-loop-token : goal.invariant-loop-token
invariant-loop-token l =
    (length_from l.text 0 l.first l.tokens ≡ length_from l.text l.count l.before (drop l.token-index l.tokens)) × (l.count ≡ l.token-index)
