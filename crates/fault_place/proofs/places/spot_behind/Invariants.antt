use Rattle.std.proofs.Common.{◌≡◌, ◌≤◌, ◌+◌}
use Rattle.fault_place.specs.Place.{line_at, column_at}
use Rattle.fault_place.proofs.places.spot_behind.Given as goal

abbrev pub invariant-loop-at : goal.invariant-loop-at
invariant-loop-at l = record {
  line_is : l.line ≡ line_at l.text l.at;
  column_is : l.column ≡ column_at l.text l.at;
  few_lines : l.line ≤ l.at + 1;
  few_columns : l.column ≤ l.at + 1;
}
