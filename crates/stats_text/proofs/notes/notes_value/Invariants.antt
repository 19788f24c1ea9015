use Rattle.std.proofs.Common.{◌≡◌, map, take}
use Rattle.std.specs.Prelude.{flat_map}
use Rattle.serde_json.specs.View.{view}
use Rattle.stats_text.specs.Stats.{notes_in}
use Rattle.stats_text.proofs.notes.notes_value.Given as goal

abbrev pub invariant-loop-place : goal.invariant-loop-place
invariant-loop-place l = map view l.notes.items ≡ flat_map notes_in (take l.place l.graph.records)
