use Rattle.std.proofs.Common.{subst, sym}
use Rattle.runs_seal.specs.Small.{AreGood}
use Rattle.runs_seal.proofs.Few.{good-none}
use Rattle.runs_seal.proofs.graphs.items.Goals as goal

pub loop-part-init : goal.loop-part-init
loop-part-init c = subst (AreGood c.args.size) (sym c.new-items.ensures.items) (good-none _)
