use Rattle.std.proofs.Common.{◌≡◌, ◌++◌, map, take}
use Rattle.module_code.specs.Quoted.{with_commas}
use Rattle.chunk_code.specs.Texts.{file_text}
use Rattle.chunk_code.proofs.runtime.add_files.Given as goal

abbrev pub invariant-loop-place : goal.invariant-loop-place
invariant-loop-place l = l.text.items ≡ l.fn.text.items ++ with_commas (map file_text (take l.place l.files))
