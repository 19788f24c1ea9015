use Rattle.std.proofs.Common.{◌≡◌, ◌++◌, map, take}
use Rattle.serde_json.specs.View.{view}
use Rattle.stats_text.specs.Stats.{note_stats}
use Rattle.stats_text.proofs.notes.add_notes.Given as goal

abbrev pub invariant-loop-note : goal.invariant-loop-note
invariant-loop-note l = map view l.notes.items ≡ map view l.fn.notes.items ++ map (note_stats l.rec.path) (take l.note-index l.note-items)
