use Rattle.std.proofs.Common.{◌∙◌, ap}
use Rattle.std.specs.Str.{chars}
use Rattle.es_tokens.proofs.TextLemmas.{gap-boundary, gap-passed}
use Rattle.es_tokens.proofs.step.split_gap.Goals as goal

pub range-requires-clause-end_boundary : goal.range-requires-clause-end_boundary
range-requires-clause-end_boundary c =
    gap-boundary c.args.first c.args.rest.now c.after_gap-left.result.now c.utf8.rest c.after_gap-left.utf8 c.after_gap-left.ensures.left

pub returns-clause-gap : goal.returns-clause-gap
returns-clause-gap c =
    ap chars c.range.ensures.value
    ∙ gap-passed c.args.first c.args.rest.now c.after_gap-left.result.now c.utf8.rest c.after_gap-left.utf8 c.after_gap-left.ensures.left
