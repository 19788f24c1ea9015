use Rattle.chunk_groups.proofs.Names.{one_order, searched-name}
use Rattle.chunk_groups.proofs.naming.place_of.Goals as goal

pub returns-in-Ok-clause-found : goal.returns-in-Ok-clause-found
returns-in-Ok-clause-found c = λ d. one_order _ _ (c.in-Ok.ensures.position d)

pub returns-in-Err : goal.returns-in-Err
returns-in-Err c = absurd (searched-name c.args.names.now c.args.name.now _ c.requires.sorted c.requires.there c.in-Err.ensures.position)
