use Rattle.std.proofs.Common.{◌≡◌, ◌≤◌, ◌∙◌, ℕ, List, map, length, arith}
use Rattle.std.proofs.lemmas.Simd.{map-map}
use Rattle.form_shapes.specs.Variables.{declarators, first_text}
use Rattle.es_scan.specs.Exports.{own_export}
use Rattle.es_scan.proofs.Mapped.{mapped}
use Rattle.es_scan.proofs.exports.variables_exports.Goals as goal

pub returns : goal.returns
returns c =
    let text : List ℕ = c.args.source.text.now in
    let parts : _ = declarators text c.args.source.tokens.now c.args.at in
    let names : List (List ℕ) = map (first_text text) parts in
    let short : length c.deref-name-items.result.now ≤ c.loop-name.name-index = omega arith in
    let same : map (λ item. item.now) c.deref-name-items.result.now ≡ names = rw c.deref-name-items.ensures.value c.in_ok-names.ensures in
    c.loop-name.invariant ∙ mapped own_export c.deref-name-items.result.now names c.loop-name.name-index short same
    ∙ map-map own_export (first_text text) parts
