use Rattle.std.proofs.Common.{◌≡◌, ◌++◌, map, take}
use Rattle.module_code.specs.Binds.{bind_text}
use Rattle.module_code.specs.Quoted.{with_commas}
use Rattle.module_code.proofs.binds.add_binds.Given as goal

abbrev pub invariant-loop-place : goal.invariant-loop-place
invariant-loop-place l = l.text.items ≡ l.fn.text.items ++ with_commas (map (bind_text l.numbers) (take l.place l.binds))
