use Rattle.std.proofs.Common.{[], refl}
use Rattle.module_code.proofs.Numbering.{filter_map-number_of}
use Rattle.module_code.proofs.laws.declarations_are_counted.Goals as goal

pub returns : goal.returns
returns c = λ items. filter_map-number_of items [] items refl
