use Rattle.std.proofs.Common.{◌≡◌, [], fold, take}
use Rattle.outside.specs.inner.Walk.{child_in, with_entry}
use Rattle.outside.proofs.folder.entries_of.Given as goal

abbrev pub invariant-loop-file : goal.invariant-loop-file
invariant-loop-file l =
    l.entries.items ≡ fold (λ entries file. with_entry entries (child_in l.folder file)) [] (take l.file-index l.file-items)
