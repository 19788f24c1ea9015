use Rattle.std.proofs.Common.{[], filter_map, take}
use Rattle.claim_board.specs.Claims.{board_files}
use Rattle.graph_types.specs.Targets.{item_target}
use Rattle.build_round.specs.inner.Parts.{Adds, Keeps}
use Rattle.build_round.proofs.keeping.keep_free.Given as goal

abbrev pub invariant-loop-item : goal.invariant-loop-item
invariant-loop-item l = record {
  adds : Adds l.fn.seat l.seat [] [];
  keeps : Keeps (board_files l.board) l.seat (filter_map item_target (take l.item-index l.items)) l.fn.kept.items l.kept.items;
}
