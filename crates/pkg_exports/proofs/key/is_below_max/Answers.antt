use Rattle.std.proofs.Common.{Ok, Err}
use Rattle.std.specs.declared.num.ParseIntError.{ParseIntError}
use Rattle.pkg_exports.proofs.Stars.{below_max}
use Rattle.pkg_exports.proofs.key.is_below_max.Goals as goal

pub returns-in-Ok : goal.returns-in-Ok
returns-in-Ok c = below_max {E = ParseIntError} c.args.digits.now (Ok c.in-Ok.value) c.in-Ok.ensures.value.0 c.requires

pub returns-in-Err : goal.returns-in-Err
returns-in-Err c = below_max c.args.digits.now (Err c.in-Err.field-0) c.in-Err.ensures.value.0 c.requires
