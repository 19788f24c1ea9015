use Rattle.std.proofs.Common.{length}
use Rattle.seal_build.proofs.Fitting.{small-sum}
use Rattle.seal_build.proofs.chunking.final_chunks.Goals as goal

pub split-requires-clause-small : goal.split-requires-clause-small
split-requires-clause-small c = small-sum (length c.args.config.now.entries) c.args.graph.now c.requires.fits c.requires.no_faults
