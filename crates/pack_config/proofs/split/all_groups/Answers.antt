use Rattle.std.proofs.Common.{◌++◌, map, ap, ◌∙◌}
use Rattle.pack_config.specs.Splits.{default_group, missing_keys}
use Rattle.pack_config.proofs.Totals.{faults_join}
use Rattle.pack_config.proofs.split.all_groups.Goals as goal

pub returns-clause-faults : goal.returns-clause-faults
returns-clause-faults c =
    faults_join c.args.places.now c.args.base c.args.tree.now c.args.pairs.now c.deref.result.now _ _ _ _
    (c.deref.ensures.value ∙ c.in_ok-add_defaults.ensures ∙ ap (λ ys. ys ++ map (default_group c.args.base) (missing_keys c.args.pairs.now)) c.in_ok-groups.ensures.value)
    c.in_ok-groups.ensures.faults c.note_count.ensures c.in_ok-note_repeated.ensures
