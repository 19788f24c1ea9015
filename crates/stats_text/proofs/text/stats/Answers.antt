use Rattle.std.proofs.Common.{◌++◌, codes, ap, ◌∙◌}
use Rattle.serde_json.specs.Written.{compact_text, has_float}
use Rattle.stats_text.proofs.Plain.{plain-stats}
use Rattle.stats_text.proofs.text.stats.Goals as goal

pub returns : goal.returns
returns c =
    let plain = ap has_float c.in_ok-value.ensures ∙ plain-stats c.args.graph.now c.args.groups.now c.args.chunks.now c.args.config.now c.args.splits.now c.args.assets.now in
    ap (λ vec. vec.items) c.into_bytes.ensures.value ∙ c.in_ok-push_str.ensures.bytes
    ∙ ap (λ text. text ++ codes "\n") (c.in_ok-text.ensures.text plain ∙ ap compact_text c.in_ok-value.ensures)
