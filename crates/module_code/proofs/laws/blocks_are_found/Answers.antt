use Rattle.std.proofs.Common.{refl}
use Rattle.graph_types.specs.Edges.{blocks_of}
use Rattle.module_code.proofs.BlockOrder.{block_found}
use Rattle.module_code.proofs.laws.blocks_are_found.Goals as goal

pub returns : goal.returns
returns c = λ records number block whole there. block_found records whole (blocks_of records) refl number block there
