use Rattle.std.proofs.Common.{◌≡◌, ◌≤◌, ◌∙◌, List, map, length, arith}
use Rattle.es_tokens.specs.declared.token.Token.{Token}
use Rattle.form_shapes.specs.Names.{specifiers}
use Rattle.es_scan.specs.Exports.{specifier_export}
use Rattle.es_scan.proofs.Mapped.{mapped}
use Rattle.es_scan.proofs.exports.names_exports.Goals as goal

pub returns : goal.returns
returns c =
    let parts : List (List Token) = specifiers c.args.source.text.now c.args.source.tokens.now c.args.at in
    let short : length c.deref-part-items.result.now ≤ c.loop-part.part-index = omega arith in
    let same : map (λ item. item.now) c.deref-part-items.result.now ≡ parts = rw c.deref-part-items.ensures.value c.in_ok-parts.ensures in
    c.loop-part.invariant ∙ mapped (specifier_export c.args.source.text.now c.args.item) c.deref-part-items.result.now parts c.loop-part.part-index short same
