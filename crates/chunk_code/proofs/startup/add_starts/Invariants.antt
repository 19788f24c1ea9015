use Rattle.std.proofs.Common.{◌≡◌, ◌++◌, take}
use Rattle.std.specs.Prelude.{flat_map}
use Rattle.chunk_code.specs.Texts.{start_text}
use Rattle.chunk_code.proofs.startup.add_starts.Given as goal

abbrev pub invariant-loop-root : goal.invariant-loop-root
invariant-loop-root l = l.text.items ≡ l.fn.text.items ++ flat_map (start_text l.view) (take l.root-index l.roots)
