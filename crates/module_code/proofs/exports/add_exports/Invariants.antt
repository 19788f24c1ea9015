use Rattle.std.proofs.Common.{◌≡◌, ◌++◌, map, take}
use Rattle.module_code.specs.Exports.{export_text}
use Rattle.module_code.specs.Quoted.{with_commas}
use Rattle.module_code.proofs.exports.add_exports.Given as goal

abbrev pub invariant-loop-place : goal.invariant-loop-place
invariant-loop-place l = l.text.items ≡ l.fn.text.items ++ with_commas (map (export_text l.numbers) (take l.place l.exports))
