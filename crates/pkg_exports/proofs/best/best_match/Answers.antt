use Rattle.pkg_exports.proofs.Greatest.{fold_greatest}
use Rattle.pkg_exports.proofs.best.best_match.Goals as goal

pub loop-pair-init : goal.loop-pair-init
loop-pair-init c = fold_greatest c.args.subpath.now c.args.pairs.now
