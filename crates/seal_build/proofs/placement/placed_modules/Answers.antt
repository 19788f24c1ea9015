use Rattle.seal_build.proofs.Placing.{placed-by}
use Rattle.seal_build.proofs.placement.placed_modules.Goals as goal

pub returns : goal.returns
returns c =
    placed-by c.args.graph.now c.args.groups.now.infos c.in_ok-reach.reach c.in_ok-avail.avail c.in_ok-placed.placed c.in_ok-reach.ensures c.rows.ensures.even
    c.in_ok-avail.ensures.available c.rows-2.ensures.even c.in_ok-placed.ensures c.rows-3.ensures.even
