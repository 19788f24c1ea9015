use Rattle.pack_config.proofs.Totals.{defaults_added}
use Rattle.pack_config.proofs.split.add_defaults.Goals as goal

pub returns : goal.returns
returns c = defaults_added c.args.base c.args.pairs.now c.args.groups.now.items _ _ c.in_ok-add_default.ensures c.in_ok-add_default-2.ensures
