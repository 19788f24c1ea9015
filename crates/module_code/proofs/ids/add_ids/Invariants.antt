use Rattle.std.proofs.Common.{◌≡◌, ◌++◌, map, take, decimal}
use Rattle.module_code.specs.Quoted.{with_commas}
use Rattle.module_code.proofs.ids.add_ids.Given as goal

abbrev pub invariant-loop-place : goal.invariant-loop-place
invariant-loop-place l = l.text.items ≡ l.fn.text.items ++ with_commas (map decimal (take l.place l.ids))
