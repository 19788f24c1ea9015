use Rattle.std.proofs.Common.{◌≡◌, length, drop}
use Rattle.path_text.specs.Path.{segments, texts, walk_from}
use Rattle.path_text.proofs.path.walk.Given as goal

-- what is left of the text leads from the segments kept so far to where the whole text leads
abbrev pub invariant-loop-segment : goal.invariant-loop-segment
invariant-loop-segment l =
    walk_from (texts l.initial.kept.items) (segments l.text) ≡ walk_from (texts l.kept.items) (drop (length l.yielded) (segments l.text))
