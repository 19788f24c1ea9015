use Rattle.std.proofs.Common.{bit_and, w64}
use Rattle.std.specs.Int.{bit_not}
use Rattle.bit_rows.proofs.Blocks.{zip2-map_right}
use Rattle.bit_rows.proofs.operations.MinusWordOperation.apply_to_lanes.Goals as goal

pub returns : goal.returns
returns c = zip2-map_right bit_and (bit_not w64) c.args.a c.args.b
