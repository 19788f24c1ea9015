use Rattle.std.proofs.Common.{◌≡◌, ◌++◌, take}
use Rattle.std.specs.List.{enumerate_from, flat_map}
use Rattle.module_code.specs.Loads.{numbered_load}
use Rattle.module_code.proofs.loads.add_loads.Given as goal

abbrev pub invariant-loop-place : goal.invariant-loop-place
invariant-loop-place l =
    l.text.items ≡ l.fn.text.items ++ flat_map (numbered_load l.view l.rec) (enumerate_from 0 (take l.place l.items))
