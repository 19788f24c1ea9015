use Rattle.std.proofs.Common.{◌≡◌, ◌++◌, map, take, drop}
use Rattle.split_chunks.specs.Ends.{joined_list}
use Rattle.split_chunks.proofs.joining.join_all.Given as goal

abbrev pub invariant-loop-group : goal.invariant-loop-group
invariant-loop-group l = l.state ≡ record l.initial.state {
  groups = map (joined_list l.row l.chunk.0) (take l.group l.initial.state.groups) ++ drop l.group l.initial.state.groups;
}
